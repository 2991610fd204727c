-- A section from the other face, at depth 0 (document 02, 3/14: "Turning reverses the lamellae"): what stays and what changes places.
use Rattle.std.specs.Prelude.{ℕ, ◌+◌, ◌-◌, ◌*◌, ◌≡◌}
use Rattle.section.specs.declared.Section.{Section}

pub record Mirrored (t : ℕ) (s r : Section) : Type 0 where
  -- N is the same
  pub n : r.n ≡ s.n
  -- P' = 2TN − P, with T the thickness of all lamellae
  pub p : r.p + s.p ≡ 2 * t * s.n
  -- 4NQ − 3P² is the same
  pub inertia : Rattle.section.specs.Tests.inertia r ≡ Rattle.section.specs.Tests.inertia s
  -- the two edges change places: P − 2N·lo and 2N·hi − P
  pub outer : r.p - 2 * r.n * r.lo ≡ 2 * s.n * s.hi - s.p
  pub inner : 2 * r.n * r.hi - r.p ≡ s.p - 2 * s.n * s.lo

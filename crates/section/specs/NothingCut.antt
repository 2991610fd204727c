-- That no difference in the definitions of the section is cut off at 0, as inequalities: of a counted part, and of the sums.
use Rattle.std.specs.Prelude.{◌*◌, ◌≤◌}
use Rattle.section.specs.declared.Section.{Section}
use Rattle.section.specs.Sections.{Part}

-- of a part from a to b: b − a, b² − a² and b³ − a³ are not cut off
pub record Forward (x : Part) : Type 0 where
  pub n : x.from ≤ x.to
  pub p : x.from * x.from ≤ x.to * x.to
  pub q : x.from * x.from * x.from ≤ x.to * x.to * x.to

-- of a section: P − 2N·lo, 2N·hi − P and 4NQ − 3P² are not cut off
pub record NothingCut (s : Section) : Type 0 where
  pub outer : 2 * s.n * s.lo ≤ s.p
  pub inner : s.p ≤ 2 * s.n * s.hi
  pub inertia : 3 * s.p * s.p ≤ 4 * s.n * s.q

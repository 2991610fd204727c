-- The sums lamella by lamella, as the code takes them: one more lamella at the deeper end. `Growing` in proofs/ ties them to
-- `section_of`.
use Rattle.std.specs.Prelude.{ℕ, ◌+◌, ◌-◌, ◌*◌, ◌≤◌, Bool, true, false, eqb}
use Rattle.numbers.specs.Choice.{pick}
use Rattle.panel.specs.Lamellae.{Lamella}
use Rattle.section.specs.declared.Section.{Section}
use Rattle.section.specs.Sections.{Part, rest, counts}

-- the sums with one more part, deeper than the others; N is 0 where it is the first
unfoldable pub with_part : Section → Part → Section
with_part s x =
    record {
      n = s.n + (x.to - x.from);
      p = s.p + (x.to * x.to - x.from * x.from);
      q = s.q + (x.to * x.to * x.to - x.from * x.from * x.from);
      lo = pick (eqb s.n 0) x.from s.lo;
      hi = x.to;
    }

abbrev pub pick_section : Bool → Section → Section → Section
pick_section true s r = s
pick_section false s r = r

-- the sums with one more lamella, which begins at top
unfoldable pub with_lamella : ℕ → ℕ → Lamella → Section → Section
with_lamella depth top l s = pick_section (counts depth top l) (with_part s (rest depth top l)) s

-- sums over lamellae from the exposed face to `end`
pub record SumsTo (end : ℕ) (s : Section) : Type 0 where
  pub n : s.n ≤ end
  pub p : s.p ≤ end * end
  pub q : s.q ≤ end * end * end
  pub lo : s.lo ≤ end
  pub hi : s.hi ≤ end

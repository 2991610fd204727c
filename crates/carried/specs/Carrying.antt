-- What the functions that carry the section ask for, and what they hand to each other.
use Rattle.std.specs.Prelude.{ℕ, ◌+◌, ◌-◌, ◌*◌, ◌<◌, ◌≤◌, List, [], ◌∷◌, Option, Some, None, cond}
use Rattle.std.specs.Coded.{×_prop, Unit-prop, le_prop}
use Rattle.panel.specs.Lamellae.{Lamella, along}
use Rattle.section.specs.declared.Section.{Section}
use Rattle.section.specs.Sections.{least_remainder}

-- of line 11: each lamella is thick enough to be counted until it is cut
abbrev pub EachThick : List Lamella → Type 0
EachThick [] = Unit
EachThick (l ∷ ls) = (least_remainder ≤ l.thickness) × EachThick ls

-- and there is one proof of it at most, as a ghost field wants it
pub EachThick-prop : (ls : List Lamella) → IsProp (EachThick ls)
EachThick-prop [] = Unit-prop
EachThick-prop (l ∷ ls) = ×_prop le_prop (EachThick-prop ls)

-- lamellae keep the limits of line 11
pub record LamellaeFit (ls : List Lamella) : Type 0 where
  pub thickness : Rattle.panel.specs.Lamellae.thickness ls ≤ 4000
  pub each : EachThick ls

-- no difference in the step is cut off at 0: where the lamella being cut is counted, the sums have what lies from lo to its end
pub record HoldsPart (s : Section) (end : ℕ) : Type 0 where
  pub within : end ≤ 4000
  pub n : end - s.lo ≤ s.n
  pub p : end * end - s.lo * s.lo ≤ s.p
  pub q : end * end * end - s.lo * s.lo * s.lo ≤ s.q

abbrev pub StepFits : Section → ℕ → Type 0
StepFits s end = 0 < s.n → s.lo < end → HoldsPart s end

-- where the first lamella along begins, of lamellae the first of which begins at top, if one is along. `first_along` is the same number, with
-- 0 where none is (`next_is_first` in proofs/)
unfoldable pub next_along : ℕ → List Lamella → Option ℕ
next_along top [] = None
next_along top (l ∷ ls) = cond (along l) (Some top) (next_along (top + l.thickness) ls)

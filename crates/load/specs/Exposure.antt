-- Document 01, "Remaining section": the remaining section at a time, and what it is for more exposure not to enlarge it.
use Rattle.std.specs.Prelude.{ℕ, ◌*◌, ◌≤◌, List, [], ◌∷◌, ◌⊎◌}
use Rattle.panel.specs.declared.Panel.{Panel}
use Rattle.panel.specs.Lamellae.{lamellae}
use Rattle.section.specs.Sections.{Part, counted}
use Rattle.charring.specs.Depths.{effective_at, tenths_at}

-- "the counted parts at that depth, rounded up to a tenth": those of the remaining section at n/q minutes
abbrev pub counted_at : Panel → ℕ → ℕ → List Part
counted_at p n q = counted (tenths_at p n q) (lamellae p)

-- a part lies inside one of the parts of a list
abbrev pub InsideOne : Part → List Part → Type 0
InsideOne x [] = ⊥
InsideOne x (y ∷ ys) = ((y.from ≤ x.from) × (x.to ≤ y.to)) ⊎ InsideOne x ys

abbrev pub EachInsideOne : List Part → List Part → Type 0
EachInsideOne [] ys = Unit
EachInsideOne (x ∷ xs) ys = InsideOne x ys × EachInsideOne xs ys

-- from n/q to r/s "the section is not enlarged when the later effective depth is no less and each part then counted lies inside one
-- counted before". The effective depth at n/q is given times q, the one at r/s times s
pub record NotEnlarged (p : Panel) (n q r s : ℕ) : Type 0 where
  pub deeper : effective_at p n q * s ≤ effective_at p r s * q
  pub inside : EachInsideOne (counted_at p r s) (counted_at p n q)

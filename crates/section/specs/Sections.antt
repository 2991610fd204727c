-- Document 01, "Remaining section": the counted parts at a depth, and N, P, Q, lo and hi of them. Lengths are in tenths of mm,
-- measured from the exposed face.
use Rattle.std.specs.Prelude.{ℕ, ◌+◌, ◌-◌, ◌*◌, max, List, [], ◌∷◌, Bool, true, false, ◌&&◌, leb}
use Rattle.panel.specs.Lamellae.{Lamella, along}
use Rattle.section.specs.declared.Section.{Section}

-- a stretch of the section, from a to b
pub record Part : Type 0 where
  pub from : ℕ
  pub to : ℕ

-- "a remainder under 3.0 mm is dropped"
abbrev pub least_remainder : ℕ
least_remainder = 30

-- "each with what lies deeper": what is left at a depth of a lamella that begins at top
abbrev pub rest : ℕ → ℕ → Lamella → Part
rest depth top l = record { from = max depth top; to = top + l.thickness }

-- "only along lamellae count": whether a lamella that begins at top is counted at a depth (01's counted part)
abbrev pub counts : ℕ → ℕ → Lamella → Bool
counts depth top l = along l && leb least_remainder ((rest depth top l).to - (rest depth top l).from)

abbrev pub keep_if : Bool → Part → List Part → List Part
keep_if true x xs = x ∷ xs
keep_if false x xs = xs

-- the counted parts at a depth, of lamellae the first of which begins at top
unfoldable pub counted_from : ℕ → ℕ → List Lamella → List Part
counted_from depth top [] = []
counted_from depth top (l ∷ ls) =
    keep_if (counts depth top l) (rest depth top l) (counted_from depth (top + l.thickness) ls)

abbrev pub counted : ℕ → List Lamella → List Part
counted depth ls = counted_from depth 0 ls

-- the sum of f b − f a over parts from a to b
unfoldable pub total : (ℕ → ℕ) → List Part → ℕ
total f [] = 0
total f (x ∷ xs) = (f x.to - f x.from) + total f xs

-- "lo and hi are the outermost ends"; 01 leaves them free where nothing is counted, and here they are then 0
unfoldable pub lowest : List Part → ℕ
lowest [] = 0
lowest (x ∷ xs) = x.from

unfoldable pub highest : List Part → ℕ
highest [] = 0
highest (x ∷ []) = x.to
highest (x ∷ y ∷ xs) = highest (y ∷ xs)

-- "N is the sum of b − a, P of b² − a², Q of b³ − a³"
unfoldable pub section_of : List Part → Section
section_of xs =
    record {
      n = total (λ (x : ℕ). x) xs;
      p = total (λ (x : ℕ). x * x) xs;
      q = total (λ (x : ℕ). x * x * x) xs;
      lo = lowest xs;
      hi = highest xs;
    }

-- Between two grades that follow each other every minute has the lower one.
use Prim.Native.Nat.{ℕ, ◌<◌, ◌≤◌, max}
use mathlib.Core.Path.{◌≡◌, refl, sym, ap, ap₂, ◌∙◌}
use mathlib.Core.List.{List, [], ◌∷◌}
use mathlib.Core.Bool.{Bool, true, false, ◌&&◌, ◌||◌}
use native.Mathlib.Omega.{arith}
use borrow.Author.Tests.{le-leb, lt-leb, leb-true}
use lib.Dec.{T, leb, leb→le}
use Rattle.numbers.specs.Choice.{pick}
use Rattle.numbers.proofs.Booleans.{IsTrue-left, IsTrue-right}
use Rattle.grades.specs.Grades.{grades, greatest_to, grade_of}

-- no number of the list lies between low and high
abbrev apart : ℕ → ℕ → List ℕ → Bool
apart low high [] = true
apart low high (g ∷ gs) = (leb g low || leb high g) && apart low high gs

same_test : (low high g m : ℕ) → T (leb g low || leb high g) → low ≤ m → m < high → leb g m ≡ leb g low
same_test low high g m t l h = go (leb g low) refl t
  where
    go : (b : Bool) → leb g low ≡ b → T (b || leb high g) → leb g m ≡ leb g low
    go true e t' =
        let k : g ≤ low = leb-true g low e in
        le-leb g m (omega arith) ∙ sym e
    go false e t' =
        let k : high ≤ g = leb→le high g t' in
        lt-leb g m (omega arith) ∙ sym e

pub between : (low high : ℕ) (gs : List ℕ) → T (apart low high gs) → (m : ℕ) → low ≤ m → m < high → greatest_to m gs ≡ greatest_to low gs
unfolding greatest_to
between low high [] t m l h = refl
between low high (g ∷ gs) t m l h =
    ap₂ (λ (b : Bool) (n : ℕ). max (pick b g 0) n) (same_test low high g m (IsTrue-left (leb g low || leb high g) (apart low high gs) t) l h)
    (between low high gs (IsTrue-right (leb g low || leb high g) (apart low high gs) t) m l h)

-- the grade of every minute from one grade up to the next
pub grade_between : (low high : ℕ) → T (apart low high grades) → greatest_to low grades ≡ low → (m : ℕ) → low ≤ m → m < high
    → record { minutes = low } ≡ grade_of m
grade_between low high t e m l h = ap (λ (n : ℕ). record { minutes = n }) (sym (between low high grades t m l h ∙ e))

-- That `greatest_to` is the greatest of a list not above a minute, else 0.
use Prim.Native.Nat.{ℕ, ◌≤◌, max}
use mathlib.Core.Path.{◌≡◌, refl, sym, ◌∙◌}
use mathlib.Core.List.{List, [], ◌∷◌, Memᴰ}
use mathlib.Core.Bool.{Bool, true, false}
use mathlib.Core.Logic.{◌⊎◌, inl, inr, ⊎_elim}
use native.Mathlib.Decide.{dec_le}
use native.Mathlib.Nat.{le_refl, le_trans, le_antisymm, le-max_right}
use native.Mathlib.Omega.{arith}
use borrow.Author.Tests.{leb-true, le-leb, le-ltb, lt-ltb}
use lib.Dec.{leb, ltb}
use Rattle.numbers.specs.Choice.{pick}
use Rattle.grades.specs.Grades.{grades, greatest_to, grade_of, IsGradeOf}

-- it is not above the minute
pub greatest_within : (m : ℕ) (gs : List ℕ) → greatest_to m gs ≤ m
unfolding greatest_to
greatest_within m [] = omega arith
greatest_within m (g ∷ gs) = go (leb g m) refl (greatest_within m gs)
  where
    go : (b : Bool) → leb g m ≡ b → greatest_to m gs ≤ m → max (pick b g 0) (greatest_to m gs) ≤ m
    go true e below =
        let k : g ≤ m = leb-true g m e in
        omega arith
    go false e below = omega arith

-- no number of the list that is not above the minute is greater
pub greatest_most : (m : ℕ) (gs : List ℕ) (g : ℕ) → Memᴰ g gs → g ≤ m → g ≤ greatest_to m gs
unfolding greatest_to
greatest_most m (x ∷ gs) g (Memᴰ.head e) h =
    rw (le-leb x m (omega arith)) (omega arith)
greatest_most m (x ∷ gs) g (Memᴰ.tail i) h = le_trans (greatest_most m gs g i h) (le-max_right (pick (leb x m) x 0) (greatest_to m gs))
greatest_most m [] g x'' h = elim x'' [ ]

-- it is a number of the list, or 0
pub greatest_member : (m : ℕ) (gs : List ℕ) → (greatest_to m gs ≡ 0) ⊎ Memᴰ (greatest_to m gs) gs
unfolding greatest_to
greatest_member m [] = inl refl
greatest_member m (g ∷ gs) = go (leb g m) (greatest_member m gs) (dec_le (greatest_to m gs) g)
  where
    rest : ℕ
    rest = greatest_to m gs

    go :
        (b : Bool) → (rest ≡ 0) ⊎ Memᴰ rest gs → Dec (rest ≤ g)
        → (max (pick b g 0) rest ≡ 0) ⊎ Memᴰ (max (pick b g 0) rest) (g ∷ gs)
    go true r (yes h) =
        let e : max g rest ≡ g = omega arith in
        inr (Memᴰ.head e)
    go true (inl e) (no h) = absurd (let z : ⊥ = omega arith in z)
    go true (inr i) (no h) =
        let e : max g rest ≡ rest = omega arith in
        inr (Memᴰ.tail {xs = gs} (rw e i))
    go false (inl e) d = inl (omega arith)
    go false (inr i) d =
        let e : max 0 rest ≡ rest = omega arith in
        inr (Memᴰ.tail {xs = gs} (rw e i))

-- so `grade_of` gives what a grade means
pub grade_is : (m : ℕ) → IsGradeOf m (grade_of m).minutes
grade_is m = record { listed = greatest_member m grades; not_above = greatest_within m grades; greatest = greatest_most m grades }

-- and there is one such number
pub grade_unique : (m a b : ℕ) → IsGradeOf m a → IsGradeOf m b → a ≡ b
grade_unique m a b f g = le_antisymm (no_more a b f g) (no_more b a g f)
  where
    no_more : (j k : ℕ) → IsGradeOf m j → IsGradeOf m k → j ≤ k
    no_more j k f g = ⊎_elim (λ (e : j ≡ 0). omega (arith, e)) (λ (i : Memᴰ j grades). g.greatest j i f.not_above) f.listed

-- a number that is found is reached by what a minute finds exactly when the minute reaches it
pub greatest_reached : (m k : ℕ) (gs : List ℕ) → greatest_to m gs ≤ k → greatest_to m gs ≤ greatest_to k gs
greatest_reached m k gs h = go (greatest_member m gs)
  where
    go : (greatest_to m gs ≡ 0) ⊎ Memᴰ (greatest_to m gs) gs → greatest_to m gs ≤ greatest_to k gs
    go (inl e) = omega arith
    go (inr i) = greatest_most k gs (greatest_to m gs) i h

-- and is what it finds itself
pub greatest_again : (m : ℕ) (gs : List ℕ) → greatest_to (greatest_to m gs) gs ≡ greatest_to m gs
greatest_again m gs =
    le_antisymm (greatest_within (greatest_to m gs) gs) (greatest_reached m (greatest_to m gs) gs (le_refl (greatest_to m gs)))

-- so a minute's grade is below a grade exactly when the minute is
pub grade_below : (grade k : ℕ) → (grade_of grade).minutes ≡ grade → ltb (grade_of k).minutes grade ≡ ltb k grade
grade_below grade k e = go (dec_le grade k)
  where
    go : Dec (grade ≤ k) → ltb (grade_of k).minutes grade ≡ ltb k grade
    go (yes h) =
        let reached = greatest_reached grade k grades (omega (arith, e)) in
        le-ltb (grade_of k).minutes grade (omega (arith, e, reached)) ∙ sym (le-ltb k grade h)
    go (no h) =
        let within = greatest_within k grades in
        lt-ltb (grade_of k).minutes grade (omega arith) ∙ sym (lt-ltb k grade (omega arith))

-- a greater minute has no lower grade
pub grade_rises : (m k : ℕ) → m ≤ k → (grade_of m).minutes ≤ (grade_of k).minutes
grade_rises m k h = greatest_reached m k grades (le_trans (greatest_within m grades) h)

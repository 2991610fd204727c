-- In grades that fall, the first that is not above a minute is the greatest that is not.
use Prim.Native.Nat.{ℕ, ◌≤◌, max}
use mathlib.Core.Path.{◌≡◌, refl, ap, ◌∙◌}
use mathlib.Core.List.{List, [], ◌∷◌, ◌++◌, map, reverse, reverse-append}
use mathlib.Core.Bool.{Bool, true, false, cond, ◌&&◌}
use native.Mathlib.Omega.{arith}
use lib.Dec.{T, leb, leb→le}
use Rattle.std.specs.List.{find}
use Rattle.std.specs.Option.{unwrap_or}
use Rattle.std.specs.Prelude.{Some}
use Rattle.numbers.specs.Choice.{pick}
use Rattle.numbers.proofs.Booleans.{IsTrue-left, IsTrue-right}
use Rattle.grades.specs.declared.Grade.{Grade}
use Rattle.grades.specs.Grades.{greatest_to}

-- each number is at most the one before, and the first at most the top
abbrev falling : ℕ → List ℕ → Bool
falling top [] = true
falling top (g ∷ gs) = leb g top && falling g gs

none_above : (m top : ℕ) (gs : List ℕ) → T (falling top gs) → greatest_to m gs ≤ top
unfolding greatest_to
none_above m top [] t = omega arith
none_above m top (g ∷ gs) t = go (leb g m) (none_above m g gs (IsTrue-right (leb g top) (falling g gs) t))
  where
    below : g ≤ top
    below = leb→le g top (IsTrue-left (leb g top) (falling g gs) t)

    go : (b : Bool) → greatest_to m gs ≤ g → max (pick b g 0) (greatest_to m gs) ≤ top
    go true rest = omega (arith, below)
    go false rest = omega (arith, below)

abbrev pub grade : ℕ → Grade
grade n = record { minutes = n }

-- the first of these grades that is not above m, else none
abbrev pub first : ℕ → List ℕ → Grade
first m gs = unwrap_or (find (λ (g : Grade). leb g.minutes m) (map grade gs)) (grade 0)

pub first_greatest : (m top : ℕ) (gs : List ℕ) → T (falling top gs) → first m gs ≡ grade (greatest_to m gs)
unfolding greatest_to
first_greatest m top [] t = refl
first_greatest m top (g ∷ gs) t =
    let after = IsTrue-right (leb g top) (falling g gs) t in
    go (leb g m) (none_above m g gs after) (first_greatest m g gs after)
  where
    go :
        (b : Bool) → greatest_to m gs ≤ g → first m gs ≡ grade (greatest_to m gs)
        → unwrap_or (cond b (Some (grade g)) (find (λ (x : Grade). leb x.minutes m) (map grade gs))) (grade 0) ≡ grade (max (pick b g 0) (greatest_to m gs))
    go true below e = ap grade (let k : g ≡ max g (greatest_to m gs) = omega arith in k)
    go false below e = e ∙ ap grade (let k : greatest_to m gs ≡ max 0 (greatest_to m gs) = omega arith in k)

-- the order of a list does not matter
greatest_append : (m : ℕ) (xs ys : List ℕ) → greatest_to m (xs ++ ys) ≡ max (greatest_to m xs) (greatest_to m ys)
unfolding greatest_to
greatest_append m [] ys = omega arith
greatest_append m (x ∷ xs) ys = ap (max (pick (leb x m) x 0)) (greatest_append m xs ys) ∙ omega arith

pub greatest_reverse : (m : ℕ) (xs : List ℕ) → greatest_to m (reverse xs) ≡ greatest_to m xs
unfolding greatest_to
greatest_reverse m [] = refl
greatest_reverse m (x ∷ xs) =
    ap (greatest_to m) (reverse-append (x ∷ []) xs) ∙ greatest_append m (reverse xs) (x ∷ []) ∙ ap (λ (n : ℕ). max n (max (pick (leb x m) x 0) 0)) (greatest_reverse m xs) ∙ omega arith

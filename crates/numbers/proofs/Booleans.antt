-- Tests joined by "and" and "or", and the range test. What std has of them is cited from there; `or_assoc` and those of `T` stand in the kit
-- too, in files that keep them private or that no crate may cite, and so are kept as they are. std's `and_left` and `and_right` are of tests
-- that fail.
use Rattle.std.proofs.lemmas.Bool.{or_parts}
use Prim.Native.Nat.{ℕ, ◌≤◌}
use mathlib.Core.Path.{◌≡◌, refl}
use mathlib.Core.Bool.{Bool, true, false, not, ◌&&◌, ◌||◌}
use native.Mathlib.Omega.{arith}
use borrow.Author.Tests.{ltb-false}
use lib.Dec.{T, ltb}
use Rattle.numbers.specs.Choice.{outside}
use mathlib.Core.Logic.{◌⊎◌, inl, inr}

-- What holds of a test that is true

pub IsTrue-true : (a : Bool) → T a → a ≡ true
IsTrue-true true t = refl
IsTrue-true false t = elim t [ ]

pub IsTrue-false : (a : Bool) → T (not a) → a ≡ false
IsTrue-false false t = refl
IsTrue-false true t = elim t [ ]

pub IsTrue-left : (a b : Bool) → T (a && b) → T a
IsTrue-left true b t = tt
IsTrue-left false b t = elim t [ ]

pub IsTrue-right : (a b : Bool) → T (a && b) → T b
IsTrue-right true b t = t
IsTrue-right false b t = elim t [ ]

pub IsTrue-either : (a b : Bool) → T (a || b) → T a ⊎ T b
IsTrue-either true b t = inl t
IsTrue-either false b t = inr t

-- no test is both
pub not_both : (a : Bool) → a ≡ true → a ≡ false → ⊥
not_both a e f = let z : ◌≡◌ {A = ℕ} 0 1 = cc in omega arith

-- "or"

pub or_assoc : (a b c : Bool) → (a || (b || c)) ≡ ((a || b) || c)
or_assoc true b c = refl
or_assoc false b c = refl

-- "and"

pub and_left : (a b : Bool) → (a && b) ≡ true → a ≡ true
and_left true b e = refl
and_left false b e = e

pub and_right : (a b : Bool) → (a && b) ≡ true → b ≡ true
and_right true b e = e
and_right false b e = absurd (not_both false e refl)

-- what is not outside a range is within it
pub in_range : (least greatest x : ℕ) → outside least greatest x ≡ false → (least ≤ x) × (x ≤ greatest)
in_range least greatest x e =
    let h = or_parts (ltb x least) (ltb greatest x) e in
    (ltb-false x least h.0, ltb-false greatest x h.1)

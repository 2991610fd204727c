-- That `least` is the least: it keeps the test where it is below the bound, and nothing before it does.
use Prim.Native.Nat.{ℕ, zero, suc, ◌<◌, ◌≤◌}
use mathlib.Core.Path.{◌≡◌, refl, ap, ◌∙◌}
use mathlib.Core.Bool.{Bool, true, false}
use native.Mathlib.Omega.{arith}
use Rattle.numbers.specs.Choice.{pick}
use Rattle.numbers.specs.Least.{least}

-- the same test one number on
abbrev next : (ℕ → Bool) → ℕ → Bool
next test n = test (suc n)

pub least_keeps : (test : ℕ → Bool) (bound : ℕ) → least test bound < bound → test (least test bound) ≡ true
unfolding least
least_keeps test zero h = absurd (let z : ⊥ = omega arith in z)
least_keeps test (suc bound) h = go (test 0) refl (least_keeps (next test) bound) h
  where
    go :
        (b : Bool) → test 0 ≡ b → (least (next test) bound < bound → test (suc (least (next test) bound)) ≡ true)
        → pick b 0 (suc (least (next test) bound)) < suc bound → test (pick b 0 (suc (least (next test) bound))) ≡ true
    go true e later h = e
    go false e later h = later (omega arith)

pub least_before : (test : ℕ → Bool) (bound n : ℕ) → n < least test bound → test n ≡ false
unfolding least
least_before test zero n h = absurd (let z : ⊥ = omega arith in z)
least_before test (suc bound) n h = go (test 0) refl n h (least_before (next test) bound)
  where
    go :
        (b : Bool) → test 0 ≡ b → (n : ℕ) → n < pick b 0 (suc (least (next test) bound))
        → ((k : ℕ) → k < least (next test) bound → test (suc k) ≡ false) → test n ≡ false
    go true e n h later = absurd (let z : ⊥ = omega arith in z)
    go false e zero h later = e
    go false e (suc n) h later = later n (omega arith)

pub least_most : (test : ℕ → Bool) (bound : ℕ) → least test bound ≤ bound
unfolding least
least_most test zero = omega arith
least_most test (suc bound) = go (test 0) (least_most (next test) bound)
  where
    go : (b : Bool) → least (next test) bound ≤ bound → pick b 0 (suc (least (next test) bound)) ≤ suc bound
    go true h = omega arith
    go false h = omega arith

-- a number is found where none before it keeps the test, and it does or is the bound
pub least_is :
    (test : ℕ → Bool) (bound v : ℕ) → v ≤ bound → ((n : ℕ) → n < v → test n ≡ false) → (v < bound → test v ≡ true) → least test bound ≡ v
unfolding least
least_is test zero v h before kept = omega arith
least_is test (suc bound) zero h before kept = ap (λ (b : Bool). pick b 0 (suc (least (next test) bound))) (kept (omega arith))
least_is test (suc bound) (suc v) h before kept =
    ap (λ (b : Bool). pick b 0 (suc (least (next test) bound))) (before 0 (omega arith))
    ∙ ap suc (least_is (next test) bound v (omega arith) (λ n l. before (suc n) (omega arith)) (λ l. kept (omega arith)))

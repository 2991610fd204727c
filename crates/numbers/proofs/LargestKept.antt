-- That `largest` is the largest: it keeps the test, and nothing above it does.
use Prim.Native.Nat.{ℕ, zero, suc, ◌+◌, ◌<◌, ◌≤◌}
use mathlib.Core.Path.{◌≡◌, refl, sym, ◌∙◌}
use mathlib.Core.Bool.{Bool, true, false}
use native.Mathlib.Omega.{arith}
use native.Mathlib.Decide.{dec_lt}
use Rattle.numbers.specs.Largest.{largest, IsLargest}
use Rattle.numbers.proofs.Booleans.{not_both}

-- a number that keeps the test is found where nothing between it and the bound does
pub largest_last :
    (test : ℕ → Bool) (bound v : ℕ) → v ≤ bound → test v ≡ true → ((m : ℕ) → v < m → m ≤ bound → test m ≡ false) → largest test bound ≡ v
unfolding largest
largest_last test zero v h kept beyond = omega arith
largest_last test (suc n) v h kept beyond = go (test (suc n)) refl (largest_last test n v) (dec_lt v (suc n))
  where
    go :
        (b : Bool) → test (suc n) ≡ b
        → (v ≤ n → test v ≡ true → ((m : ℕ) → v < m → m ≤ n → test m ≡ false) → largest test n ≡ v) → Dec (v < suc n)
        → (elim b as (λ _. ℕ) [ true ↦ suc n | false ↦ largest test n ]) ≡ v
    go true e below (yes k) = absurd (not_both (test (suc n)) e (beyond (suc n) k (omega arith)))
    go true e below (no k) = omega arith
    go false e below (yes k) = below (omega arith) kept (λ m l u. beyond m l (omega arith))
    go false e below (no k) =
        let same : v ≡ suc n = omega arith in
        absurd (not_both (test (suc n)) (rw same at kept) e)

-- what is largest of all is found below any bound that it keeps to
pub largest_is : (test : ℕ → Bool) (bound v : ℕ) → IsLargest test v → v ≤ bound → largest test bound ≡ v
largest_is test bound v l h = largest_last test bound v h l.kept (λ m k u. l.beyond m k)

-- there is one largest
pub largest_unique : (test : ℕ → Bool) (v w : ℕ) → IsLargest test v → IsLargest test w → v ≡ w
largest_unique test v w l k = sym (largest_is test (v + w) v l (omega arith)) ∙ largest_is test (v + w) w k (omega arith)

-- it is no less than a number that keeps the test
pub no_less : (test : ℕ → Bool) (v m : ℕ) → IsLargest test v → test m ≡ true → m ≤ v
no_less test v m l kept = go (dec_lt v m)
  where
    go : Dec (v < m) → m ≤ v
    go (yes h) = absurd (not_both (test m) kept (l.beyond m h))
    go (no h) = omega arith

-- and, of a test that every smaller number keeps too, below one that does not
pub below_unkept :
    (test : ℕ → Bool) → ((m n : ℕ) → m ≤ n → test n ≡ true → test m ≡ true)
    → (v m : ℕ) → IsLargest test v → test m ≡ false → v < m
below_unkept test down v m l unkept = go (dec_lt v m)
  where
    go : Dec (v < m) → v < m
    go (yes h) = h
    go (no h) = absurd (not_both (test m) (down m v (omega arith) l.kept) unkept)

-- for a test that every smaller number keeps too, it is enough that v keeps it and the next does not
pub largest_by_next :
    (test : ℕ → Bool) → ((m n : ℕ) → m ≤ n → test n ≡ true → test m ≡ true)
    → (v : ℕ) → test v ≡ true → test (suc v) ≡ false → IsLargest test v
largest_by_next test down v e f =
    record { kept = e; beyond = λ m h. go m h (test m) refl }
  where
    go : (m : ℕ) → v < m → (b : Bool) → test m ≡ b → test m ≡ false
    go m h true k = absurd (not_both (test (suc v)) (down (suc v) m h k) f)
    go m h false k = k

-- what is found keeps the test where 0 does
pub largest_keeps : (test : ℕ → Bool) (bound : ℕ) → test 0 ≡ true → test (largest test bound) ≡ true
unfolding largest
largest_keeps test zero e = e
largest_keeps test (suc n) e = go (test (suc n)) refl (largest_keeps test n e)
  where
    go :
        (b : Bool) → test (suc n) ≡ b → test (largest test n) ≡ true
        → test (elim b as (λ _. ℕ) [ true ↦ suc n | false ↦ largest test n ]) ≡ true
    go true k below = k
    go false k below = below

-- and no greater number up to the bound does
pub largest_greatest : (test : ℕ → Bool) (bound m : ℕ) → m ≤ bound → test m ≡ true → m ≤ largest test bound
unfolding largest
largest_greatest test zero m h e = omega arith
largest_greatest test (suc n) m h e = go (test (suc n)) refl (largest_greatest test n m) (dec_lt m (suc n))
  where
    go :
        (b : Bool) → test (suc n) ≡ b → (m ≤ n → test m ≡ true → m ≤ largest test n) → Dec (m < suc n)
        → m ≤ (elim b as (λ _. ℕ) [ true ↦ suc n | false ↦ largest test n ])
    go true k below l = h
    go false k below (yes l) = below (omega arith) e
    go false k below (no l) =
        let same : m ≡ suc n = omega arith in
        absurd (not_both (test (suc n)) (rw same at e) k)

-- it is the largest of all where nothing above the bound keeps the test and 0 does
pub largest_found :
    (test : ℕ → Bool) (bound : ℕ) → test 0 ≡ true → ((m : ℕ) → bound < m → test m ≡ false) → IsLargest test (largest test bound)
largest_found test bound e far = record { kept = largest_keeps test bound e; beyond = λ m h. go m h (dec_lt bound m) (test m) refl }
  where
    go : (m : ℕ) → largest test bound < m → Dec (bound < m) → (b : Bool) → test m ≡ b → test m ≡ false
    go m h (yes k) b f = far m k
    go m h (no k) true f =
        let l = largest_greatest test bound m (omega arith) f in
        absurd (let z : ⊥ = omega arith in z)
    go m h (no k) false f = f

pub largest_within : (test : ℕ → Bool) (bound : ℕ) → largest test bound ≤ bound
unfolding largest
largest_within test zero = omega arith
largest_within test (suc n) = go (test (suc n)) (largest_within test n)
  where
    go : (b : Bool) → largest test n ≤ n → (elim b as (λ _. ℕ) [ true ↦ suc n | false ↦ largest test n ]) ≤ suc n
    go true h = omega arith
    go false h = omega arith

-- What a search by halving finds is the largest number that keeps a test, where smaller ones keep it too; or, of a test that fails, the number
-- before the least that keeps it, where greater ones keep it too. Assumes nothing.
use Prim.Native.Nat.{ℕ, zero, suc, ◌+◌, ◌<◌, ◌≤◌}
use mathlib.Core.Path.{◌≡◌, refl, sym}
use mathlib.Core.Bool.{Bool, true, false, not}
use native.Mathlib.Omega.{arith}
use Rattle.numbers.specs.Largest.{largest}
use Rattle.numbers.specs.Least.{least}
use Rattle.numbers.specs.Searched.{IsLastKeeping}
use Rattle.numbers.proofs.Booleans.{not_both}
use Rattle.numbers.proofs.LargestKept.{largest_last}
use Rattle.numbers.proofs.LeastKept.{least_is}

-- what holds of 0 and of any other last number
at_last : (P : ℕ → Type 0) (last : ℕ) → P 0 → (0 < last → P last) → P last
at_last P zero none some = none
at_last P (suc n) none some = some (omega arith)

pub largest_searched :
    (test : ℕ → Bool) {Answers : ℕ → Bool → Type 0} {beyond last : ℕ} → ((m n : ℕ) → m ≤ n → test n ≡ true → test m ≡ true)
    → test 0 ≡ true → ((n : ℕ) (b : Bool) → Answers n b → test n ≡ b) → IsLastKeeping Answers beyond last
    → (bound : ℕ) → beyond ≡ bound + 1 → last ≡ largest test bound
largest_searched test {last = last} down zero_kept answers found bound e =
    sym
    (largest_last test bound last (omega (arith, found.below))
    (at_last (λ n. test n ≡ true) last zero_kept (λ h. answers last true (found.kept h)))
    (λ m l u. greater m l u (test m) refl))
  where
    greater : (m : ℕ) → last < m → m ≤ bound → (b : Bool) → test m ≡ b → test m ≡ false
    greater m l u true k =
        absurd (not_both (test (last + 1)) (down (last + 1) m (omega arith) k) (answers (last + 1) false (found.next (omega arith))))
    greater m l u false k = k

pub least_searched :
    (test : ℕ → Bool) {Answers : ℕ → Bool → Type 0} {beyond last : ℕ} → ((m n : ℕ) → m ≤ n → test m ≡ true → test n ≡ true)
    → test 0 ≡ false → ((n : ℕ) (b : Bool) → Answers n b → test n ≡ not b) → IsLastKeeping Answers beyond last
    → last + 1 ≡ least test beyond
least_searched test {beyond = beyond} {last = last} up zero_fails answers found =
    sym
    (least_is test beyond (last + 1) (omega (arith, found.below)) (λ n l. smaller n l (test n) refl)
    (λ l. answers (last + 1) false (found.next l)))
  where
    smaller : (n : ℕ) → n < last + 1 → (b : Bool) → test n ≡ b → test n ≡ false
    smaller n l true k =
        absurd
        (not_both (test last) (up n last (omega arith) k)
        (at_last (λ n. test n ≡ false) last zero_fails (λ h. answers last true (found.kept h))))
    smaller n l false k = k

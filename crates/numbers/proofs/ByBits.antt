-- Bit by bit the largest number is found that keeps a test which smaller numbers keep too.
use Prim.Native.Nat.{ℕ, zero, suc, ◌+◌, ◌^◌, ◌≤◌}
use mathlib.Core.Path.{◌≡◌, refl, subst}
use mathlib.Core.Bool.{Bool, true, false}
use native.Mathlib.Omega.{arith}
use Rattle.numbers.specs.Largest.{IsLargest}
use Rattle.numbers.specs.ByBits.{by_bits}
use Rattle.numbers.proofs.LargestKept.{largest_by_next}

pub bits_largest :
    (test : ℕ → Bool) → ((m n : ℕ) → m ≤ n → test n ≡ true → test m ≡ true)
    → (k v : ℕ) → test v ≡ true → test (v + 2 ^ k) ≡ false → IsLargest test (by_bits test k v)
bits_largest test down zero v kept far = largest_by_next test down v kept (subst (λ (n : ℕ). test n ≡ false) (omega arith) far)
bits_largest test down (suc k) v kept far = go (test (v + 2 ^ k)) refl (bits_largest test down k)
  where
    go :
        (b : Bool) → test (v + 2 ^ k) ≡ b
        → ((w : ℕ) → test w ≡ true → test (w + 2 ^ k) ≡ false → IsLargest test (by_bits test k w))
        → IsLargest test (by_bits test k (elim b as (λ _. ℕ) [ true ↦ v + 2 ^ k | false ↦ v ]))
    go true e rest = rest (v + 2 ^ k) e (subst (λ (n : ℕ). test n ≡ false) (omega arith) far)
    go false e rest = rest v kept e

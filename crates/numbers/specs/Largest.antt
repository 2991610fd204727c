-- The largest number that keeps a test, as document 01 has it for basic times and layer times.
use Rattle.std.specs.Prelude.{ℕ, zero, suc, ◌<◌, ◌≡◌, Bool, true, false}

-- the largest number up to a bound that keeps the test; 0 where none does
unfoldable pub largest : (ℕ → Bool) → ℕ → ℕ
largest test zero = 0
largest test (suc n) = elim (test (suc n)) [ true ↦ suc n | false ↦ largest test n ]

-- v is the largest number that keeps the test, whatever the bound
pub record IsLargest (test : ℕ → Bool) (v : ℕ) : Type 0 where
  pub kept : test v ≡ true
  pub beyond : (m : ℕ) → v < m → test m ≡ false

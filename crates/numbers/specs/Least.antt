-- The least number that keeps a test: how a search from 0 on is stated.
use Rattle.std.specs.Prelude.{ℕ, zero, suc, Bool}
use Rattle.numbers.specs.Choice.{pick}

-- the least number below a bound that keeps the test; the bound where none does
unfoldable pub least : (ℕ → Bool) → ℕ → ℕ
least test zero = 0
least test (suc bound) = pick (test 0) 0 (suc (least (λ (n : ℕ). test (suc n)) bound))

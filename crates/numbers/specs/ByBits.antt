-- A search for the largest number that keeps a test, bit by bit, in a form that antt computes. It is not the meaning, which is `largest`;
-- ByBits in proofs/ says that it finds the same.
use Rattle.std.specs.Prelude.{ℕ, zero, suc, ◌+◌, ◌^◌, Bool, true, false}

-- v and as much more, below 2^k, as keeps a test that smaller numbers keep too: bit by bit, the greatest first
abbrev pub by_bits : (ℕ → Bool) → ℕ → ℕ → ℕ
by_bits test zero v = v
by_bits test (suc k) v = by_bits test k (elim (test (v + 2 ^ k)) [ true ↦ v + 2 ^ k | false ↦ v ])

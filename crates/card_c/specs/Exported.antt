-- The answers of the card's calls as one number, for programs in C.
use Rattle.std.specs.Prelude.{ℕ, ◌≤◌, ℤ, pos, neg_ℤ, Result, Ok, Err}
use Rattle.fire_card.specs.Card.{card_most}

-- the bytes written, or minus the refusal's number
abbrev pub exported : Result ℕ ℕ → ℤ
exported (Ok k) = pos k
exported (Err n) = neg_ℤ (pos n)

-- no more is written than the longest card
abbrev pub Short : Result ℕ ℕ → Type 0
Short (Ok k) = k ≤ card_most
Short (Err n) = Unit

-- What is read of an input that may be longer than the space for it, and what is printed.
use Rattle.std.specs.Prelude.{ℕ, ◌≡◌, List, take}
use Rattle.fire_card.specs.Printed.{printed_text}

-- what is printed for these bytes is what is printed for the whole of any input that begins with them, as many as there is room for
abbrev pub PrintsAsWhole : ℕ → List ℕ → Type 0
PrintsAsWhole room bytes = (input : List ℕ) → bytes ≡ take room input → printed_text bytes ≡ printed_text input

-- the text that is printed for some bytes: a card, or `REFUSED` and a number
pub record IsPrinted (text : List ℕ) : Type 0 where
  pub bytes : List ℕ
  pub same : text ≡ printed_text bytes

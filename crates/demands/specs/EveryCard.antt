-- What is said of every card that is made, wherever its text is read.
use Rattle.std.specs.Prelude.{Ok, ℕ, ◌≡◌, List, pos, take}
use Rattle.panel.specs.declared.Panel.{Panel}
use Rattle.record.specs.Layouts.{panel_of}
use Rattle.record.specs.Refusals.{record_refusal}
use Rattle.fire_card.specs.Answers.{card_answer, card_after}
use Rattle.fire_card.specs.Printed.{printed_text}
use Rattle.card_c.specs.Exported.{exported}

-- `Says` is said of a panel and the text of its card. b are the bytes of a record
pub record OfEveryCard (Says : Panel → List ℕ → Type 0) : Type 0 where
  -- of every accepted record, and the text that the program prints for it
  pub printed : (b : List ℕ) → record_refusal b ≡ 0 → Says (panel_of b) (printed_text b)
  -- of the card call, whatever the length of the lent space: where it answers that it wrote k bytes, of the first k bytes that then stand in
  -- the space
  pub of_call : (b space : List ℕ) (k : ℕ) → card_answer b space ≡ Ok k → Says (panel_of b) (take k (card_after b space))
  -- and of the function for C, where it answers k, 0 or above
  pub of_c : (b space : List ℕ) (k : ℕ) → exported (card_answer b space) ≡ pos k → Says (panel_of b) (take k (card_after b space))

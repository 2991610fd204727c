-- Document 02, 9/14, sentence by sentence: "Shop floors press start to see whether the unit is alive."
use Rattle.std.specs.Prelude.{ℕ, ◌≡◌, ◌≤◌, List, [], Ok, length}
use Rattle.numbers.specs.Bytes.{AreBytes}
use Rattle.panel.specs.declared.Panel.{Panel}
use Rattle.panel.specs.Worked.{g}
use Rattle.record.specs.Taken.{g_bytes}
use Rattle.record.specs.Layouts.{panel_of}
use Rattle.record.specs.Refusals.{record_refusal}
use Rattle.record.specs.Answers.{decode, WrittenAs}
use Rattle.fire_card.specs.Answers.{card_answer, card_after}
use Rattle.fire_card.specs.Card.{text_of_card, refusal_text}
use Rattle.fire_card.specs.Printed.{printed_text}
use Rattle.planing.specs.Answers.{planing_of}
use Rattle.card_c.specs.Planing.{record_planing}

pub record StartPressed : Type 0 where
  -- "Zero bytes now mean panel G of document 01 with moment 3,000, face 0", in version 1
  pub means : decode [] ≡ Ok (g 3000)
  -- "and give its card": where the input ends with no byte, the program prints it
  pub printed : printed_text [] ≡ text_of_card (g 3000)
  -- the card call, and so the function for C, answers what it does of G's record, and leaves the same in the lent space
  pub of_call : (space : List ℕ) → (card_answer [] space ≡ card_answer g_bytes space) × (card_after [] space ≡ card_after g_bytes space)
  -- and planing by a record answers G's least cut
  pub planing : record_planing [] ≡ Ok (planing_of (g 3000))
  -- "One to 20 bytes still meet refusal 1"
  pub refused : (b : List ℕ) → 1 ≤ length b → length b ≤ 20 → printed_text b ≡ refusal_text 1
  -- "Writing the panel so obtained gives its full version 1 record"
  pub written : (space : List ℕ) → 27 ≤ length space → WrittenAs (panel_of []) g_bytes space
  -- "and never the empty one", nor does writing any other panel
  pub never : (p : Panel) (space : List ℕ) → WrittenAs p [] space → ⊥
  -- "so the way back from bytes is promised for records of at least one byte"
  pub back : (b space : List ℕ) → AreBytes b → record_refusal b ≡ 0 → 1 ≤ length b → length b ≤ length space → WrittenAs (panel_of b) b space

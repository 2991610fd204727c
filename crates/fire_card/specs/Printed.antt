-- Document 01, "The program `card`": what is printed for the bytes of standard input.
use Rattle.std.specs.Prelude.{ℕ, List}
use Rattle.refusals.specs.Lines.{answer}
use Rattle.record.specs.Layouts.{panel_of}
use Rattle.record.specs.Refusals.{record_refusal}
use Rattle.fire_card.specs.Card.{text_of_card, refusal_text}

-- the card of an accepted record; "A refusal prints only `REFUSED` and its number"
unfoldable pub printed_text : List ℕ → List ℕ
printed_text b = answer (record_refusal b) refusal_text (text_of_card (panel_of b))

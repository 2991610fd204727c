-- What is said of the text of every accepted panel's card is said of every card that is made, wherever its text is read. Assumes nothing.
use Prim.Native.Nat.{ℕ}
use mathlib.Core.Path.{◌≡◌, sym, subst}
use mathlib.Core.List.{List}
use Rattle.std.specs.Prelude.{Ok, take}
use Rattle.panel.specs.declared.Panel.{Panel}
use Rattle.refusals.specs.Refusals.{panel_refusal}
use Rattle.record.specs.Layouts.{panel_of}
use Rattle.record.specs.Refusals.{record_lines, record_refusal}
use Rattle.record.proofs.Records.{record_panel}
use Rattle.fire_card.specs.Answers.{card_answer, card_after}
use Rattle.fire_card.specs.Card.{text_of_card}
use Rattle.fire_card.proofs.Prints.{printed_card}
use Rattle.fire_card.proofs.Texts.{text_stands}
use Rattle.card_c.proofs.Numbers.{written_bytes}
use Rattle.demands.specs.EveryCard.{OfEveryCard}

module _ (Says : Panel → List ℕ → Type 0) (said : (p : Panel) → panel_refusal p ≡ 0 → Says p (text_of_card p)) where
  of_record : (b : List ℕ) → record_refusal b ≡ 0 → Says (panel_of b) (text_of_card (panel_of b))
  of_record b e = said (panel_of b) (record_panel b e)

  of_call : (b space : List ℕ) (k : ℕ) → card_answer b space ≡ Ok k → Says (panel_of b) (take k (card_after b space))
  unfolding record_refusal
  of_call b space k e =
      let h = text_stands (record_lines b) (text_of_card (panel_of b)) space tt k e in
      subst (Says (panel_of b)) (sym h.1.1) (of_record b h.0)

  pub of_every_card : OfEveryCard Says
  of_every_card =
      record {
        printed = λ b e. subst (Says (panel_of b)) (printed_card b e) (of_record b e);
        of_call = of_call;
        of_c = λ b space k e. of_call b space k (written_bytes (record_lines b) (text_of_card (panel_of b)) space k e);
      }

-- What is asked of no byte follows from what it is taken for. Assumes nothing.
use mathlib.Core.Path.{refl, sym, ap, ◌∙◌}
use mathlib.Core.List.{[]}
use Rattle.std.specs.Prelude.{Ok, Err}
use Rattle.refusals.proofs.FirstLine.{answered}
use Rattle.record.specs.Taken.{g_bytes, taken_for}
use Rattle.record.specs.Layouts.{panel_of}
use Rattle.record.specs.Refusals.{record_refusal}
use Rattle.record.proofs.Worked.{none_panel, none_accepted, none_read}
use Rattle.fire_card.specs.Card.{text_of_card}
use Rattle.fire_card.proofs.Prints.{printed_card, printed_for_length}
use Rattle.planing.specs.Answers.{planing_of}
use Rattle.card_c.specs.Planing.{record_planing}
use Rattle.record.proofs.Records.{too_short}
use Rattle.record.proofs.RoundTrips.{none_written, never_empty, written_read}
use Rattle.demands.specs.NoByte.{StartPressed}

pub start_pressed : StartPressed
unfolding record_planing panel_of taken_for g_bytes
start_pressed =
    record {
      means = none_read;
      printed = sym (printed_card [] none_accepted) ∙ ap text_of_card none_panel;
      of_call = λ space. (refl, refl);
      planing = sym (answered (record_refusal []) Err (Ok (planing_of (panel_of []))) none_accepted) ∙ ap (λ p. Ok (planing_of p)) none_panel;
      refused = λ b some few. printed_for_length b (too_short b some few);
      written = none_written;
      never = never_empty;
      back = written_read;
    }

-- `fire_card::calls::card` meets its contract: the card of an accepted record, made aside and then delivered. Assumes nothing.
use Rattle.std.proofs.Common.{ℕ, List, [], sym, ap, ◌∙◌}
use Rattle.fire_card.proofs.Texts.{text_refused, text_written}
use Rattle.fire_card.specs.Answers.{text_answer, text_after}
use Rattle.fire_card.specs.Card.{text_of_card}
use Rattle.refusals.proofs.FirstLine.{accepted_with, refused_with, handed}
use Rattle.record.specs.Answers.{decode}
use Rattle.record.specs.Layouts.{panel_of}
use Rattle.record.specs.Refusals.{record_lines, record_refusal}
use Rattle.fire_card.proofs.calls.card.Goals as goal

pub returns-in_err-accepted : goal.returns-in_err-accepted
unfolding decode record_refusal
returns-in_err-accepted c =
    let b = c.args.bytes.now in
    let h = refused_with (panel_of b) c.in_err-accepted.ensures in
    let both = text_refused (record_lines b) (text_of_card (panel_of b)) c.args.out.now h.0 (λ z. h.1 (sym h.0 ∙ z)) in
    record { value = handed _ c.from_residual.result c.from_residual.ensures.1 ∙ both.0; out_after = both.1 }

pub returns : goal.returns
unfolding decode record_refusal
returns c =
    let d = c.write_text.ensures in
    let b = c.args.bytes.now in
    let space = c.args.out.now in
    let taken = accepted_with c.in_ok-accepted.ensures in
    let t = c.as_slice.ensures ∙ c.text_of_card-text.ensures ∙ ap text_of_card taken.1 in
    let o = text_written (record_lines b) (text_of_card (panel_of b)) space tt taken.0 in record {
      value = d.value ∙ ap (λ (text : List ℕ). text_answer [] text space) t ∙ o.0;
      out_after = d.out_after ∙ ap (λ (text : List ℕ). text_after [] text space) t ∙ o.1;
    }

-- `fire_card::calls::write_text` meets its contract: a text that does not fit changes nothing. Assumes nothing.
use Rattle.std.proofs.Common.{length, drop, List, [], ℕ, ◌++◌, refl, sym, ap, ◌∙◌}
use Rattle.fire_card.proofs.Texts.{text_refused_so, text_fits}
use Rattle.fire_card.specs.Answers.{text_refusal}
use Rattle.refusals.proofs.FirstLine.{refused_with, handed, call_line, enough}
use Rattle.refusals.specs.declared.refusal.Refusal.TheVariants.{Space}
use lib.Dec.{ltb}
use Rattle.fire_card.proofs.calls.write_text.Goals as goal

pub returns-in_err-check_space : goal.returns-in_err-check_space
unfolding text_refusal
returns-in_err-check_space c =
    let text = c.args.text.now in
    let space = c.args.out.now in
    let h = refused_with tt (call_line [] tt refl (ltb (length space) (length text)) Space c.in_err-check_space.ensures) in
    let both = text_refused_so [] text space h.0 (λ z. h.1 (sym h.0 ∙ z)) in
    record { value = handed _ c.from_residual.result c.from_residual.ensures.1 ∙ both.0; out_after = both.1 }

pub returns : goal.returns
returns c =
    let text = c.args.text.now in
    let space = c.args.out.now in
    let room = enough (length space) (length text) Space c.in_ok-check_space.ensures in
    let both = text_fits text space room in record {
      value = both.0;
      out_after = ap (λ (front : List ℕ). front ++ drop (length text) space) c.copy_from_slice.ensures.after ∙ both.1;
    }

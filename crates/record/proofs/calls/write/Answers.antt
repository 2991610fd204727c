-- `record::calls::write` meets its contract: the record is stored where no line and no want of space refuses it. Assumes nothing.
use Rattle.std.proofs.Common.{◌≡◌, ◌≤◌, length, sym, ap, ◌∙◌}
use Rattle.refusals.proofs.FirstLine.{refused_by_table, accepted_with, refused_with, handed, call_line, enough}
use Rattle.limits.specs.Answers.{accepted_answer}
use Rattle.refusals.specs.Refusals.{panel_lines, panel_refusal}
use Rattle.refusals.specs.declared.refusal.Refusal.TheVariants.{Space}
use Rattle.panel.specs.declared.Panel.{Panel}
use Rattle.record.proofs.Writes.{short, answers_refused, answers_written}
use Rattle.record.specs.Layouts.{record_length, encode}
use Rattle.record.specs.Refusals.{short_for, write_refusal}
use lib.Seq.{sets}
use Rattle.record.proofs.calls.write.Goals as goal

pub returns-in_err-accepted : goal.returns-in_err-accepted
unfolding write_refusal accepted_answer panel_refusal
returns-in_err-accepted c =
    let a = c.args in
    let h = refused_with a.p c.in_err-accepted.ensures in
    let both = answers_refused a.p a.out.now _ (refused_by_table (panel_lines a.p) (short a.p a.out.now) h.0 (λ z. h.1 (sym h.0 ∙ z))) (λ z. h.1 (sym h.0 ∙ z)) in
    record { value = handed _ c.from_residual.result c.from_residual.ensures.1 ∙ both.0; out_after = both.1 }

pub returns-in_err-check_space : goal.returns-in_err-check_space
unfolding write_refusal accepted_answer panel_refusal
returns-in_err-check_space c =
    let a = c.args in
    let residual = c.from_residual-in_err-check_space in
    let taken = accepted_with c.in_ok-accepted.ensures in
    let whole : c.record_length-length.result ≡ record_length a.p = c.record_length-length.ensures.0 ∙ ap record_length taken.1 in
    let h = refused_with tt (call_line (panel_lines a.p) tt taken.0 (short_for a.p a.out.now) Space (rw whole at c.in_err-check_space.ensures)) in
    let both = answers_refused a.p a.out.now _ h.0 (λ z. h.1 (sym h.0 ∙ z)) in
    record { value = handed _ residual.result residual.ensures.1 ∙ both.0; out_after = both.1 }

pub put_record-requires : goal.put_record-requires
put_record-requires c =
    let out = c.args.out.now in
    let len = c.record_length-length in
    rw len.ensures.0 at (enough (length out) len.result Space c.in_ok-check_space.ensures)

pub returns : goal.returns
unfolding accepted_answer
returns c =
    let a = c.args in
    let out = a.out.now in
    let len = c.record_length-length in
    let taken = accepted_with c.in_ok-accepted.ensures in
    let whole : len.result ≡ record_length a.p = len.ensures.0 ∙ ap record_length taken.1 in
    let room : record_length a.p ≤ length out =
    rw whole at (enough (length out) len.result Space c.in_ok-check_space.ensures) in
    let both = answers_written a.p out c.put_record.new.out len.result whole taken.0 room
    (c.put_record.ensures ∙ ap (λ (q : Panel). sets out 0 (encode q)) taken.1) in
    record { value = both.0; out_after = both.1 }

-- `phases::calls::depth_table` meets its contract: the table is filled where no line and no want of space refuses the call. Assumes nothing.
use Rattle.std.proofs.Common.{◌≤◌, ◌++◌, length, drop, sym, ap, ◌∙◌}
use Rattle.phases.proofs.Replies.{short, table_turned, table_filled}
use Rattle.phases.specs.Answers.{depth_table, table_refusal}
use Rattle.refusals.proofs.FirstLine.{refused_by_table, accepted_with, refused_with, handed, call_line, enough}
use Rattle.limits.specs.Answers.{accepted_answer}
use Rattle.refusals.specs.Refusals.{panel_lines, panel_refusal}
use Rattle.refusals.specs.declared.refusal.Refusal.TheVariants.{Space}
use Rattle.panel.specs.Faces.{shown}
use Rattle.panel.specs.declared.Panel.{Panel}
use lib.Dec.{ltb}
use Rattle.phases.proofs.calls.depth_table.Goals as goal

pub returns-in_err-accepted : goal.returns-in_err-accepted
unfolding table_refusal accepted_answer panel_refusal
returns-in_err-accepted c =
    let a = c.args in
    let h = refused_with a.p c.in_err-accepted.ensures in
    let both =
    table_turned a.p a.out.now _ (refused_by_table (panel_lines a.p) (short a.out.now) h.0 (λ z. h.1 (sym h.0 ∙ z))) (λ z. h.1 (sym h.0 ∙ z)) in
    record { value = handed _ c.from_residual.result c.from_residual.ensures.1 ∙ both.0; out_after = both.1 }

pub returns-in_err-check_space : goal.returns-in_err-check_space
unfolding table_refusal accepted_answer panel_refusal
returns-in_err-check_space c =
    let a = c.args in
    let residual = c.from_residual-in_err-check_space in
    let none = (accepted_with c.in_ok-accepted.ensures).0 in
    let h = refused_with tt (call_line (panel_lines a.p) tt none (ltb (length a.out.now) 361) Space c.in_err-check_space.ensures) in
    let both = table_turned a.p a.out.now _ h.0 (λ z. h.1 (sym h.0 ∙ z)) in
    record { value = handed _ residual.result residual.ensures.1 ∙ both.0; out_after = both.1 }

pub fill-requires : goal.fill-requires
fill-requires c = enough (length c.args.out.now) 361 Space c.in_ok-check_space.ensures

pub returns : goal.returns
unfolding accepted_answer
returns c =
    let a = c.args in
    let taken = accepted_with c.in_ok-accepted.ensures in
    let room : 361 ≤ length a.out.now = enough (length a.out.now) 361 Space c.in_ok-check_space.ensures in
    let both = table_filled a.p a.out.now c.fill.new.out taken.0 room
    (c.fill.ensures ∙ ap (λ (q : Panel). depth_table q ++ drop 361 a.out.now) (c.shown_fire.ensures ∙ ap shown taken.1)) in
    record { value = both.0; out_after = both.1 }

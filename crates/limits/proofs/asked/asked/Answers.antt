-- `limits::asked::asked` meets its contract: the panel's lines come before line 15. Assumes nothing.
use Rattle.std.proofs.Common.{Ok, ap, ◌∙◌}
use Rattle.limits.specs.Asked.{minute_refusal, asked_answer}
use Rattle.limits.proofs.Minutes.{late, minute_decides}
use Rattle.refusals.proofs.FirstLine.{accepted_with, handed_above, handed_on, goes_on}
use Rattle.limits.specs.Answers.{accepted_answer}
use Rattle.refusals.specs.Refusals.{panel_lines, panel_refusal}
use Rattle.limits.proofs.asked.asked.Goals as goal

pub returns-in_err-accepted : goal.returns-in_err-accepted
unfolding asked_answer minute_refusal accepted_answer panel_refusal
returns-in_err-accepted c =
    let a = c.args in
    handed_above (panel_lines a.p) (late a.minute) a.p (Ok a.p) _ c.from_residual.result c.from_residual.ensures.1 c.in_err-accepted.ensures

pub returns-in_err-asked : goal.returns-in_err-asked
unfolding asked_answer accepted_answer
returns-in_err-asked c =
    let a = c.args in
    let handed = c.from_residual-in_err-asked in
    let none = (accepted_with c.in_ok-accepted.ensures).0 in
    handed_on (minute_refusal a.p a.minute) a.minute (Ok a.p) _ handed.result handed.ensures.1
    (c.in_err-asked.ensures ∙ minute_decides a.p a.minute none)

pub returns : goal.returns
unfolding asked_answer accepted_answer
returns c =
    let a = c.args in
    let taken = accepted_with c.in_ok-accepted.ensures in
    goes_on (minute_refusal a.p a.minute) a.minute (c.in_ok-asked.ensures ∙ minute_decides a.p a.minute taken.0) (ap Ok taken.1)

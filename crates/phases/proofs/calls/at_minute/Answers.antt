-- `phases::calls::at_minute` meets its contract: the closure is called where no line refuses the panel or the minute. Assumes nothing.
use Rattle.std.proofs.Common.{Ok, ap, ◌∙◌}
use Rattle.refusals.proofs.FirstLine.{accepted_with, handed_on, worked_out}
use Rattle.limits.proofs.Minutes.{minute_taken}
use Rattle.limits.specs.Asked.{minute_refusal, asked_answer}
use Rattle.panel.specs.Faces.{shown}
use native.Mathlib.Omega.{arith}
use Rattle.phases.proofs.calls.at_minute.Goals as goal

pub returns-in_err-accepted : goal.returns-in_err-accepted
unfolding asked_answer
returns-in_err-accepted g c = λ value gives.
    handed_on (minute_refusal c.args.p c.args.minute) c.args.p (Ok value) _ c.from_residual.result c.from_residual.ensures.1 c.in_err-accepted.ensures

pub of-requires : goal.of-requires
unfolding asked_answer
of-requires g c =
    c.requires _ _ (omega (arith, c.from.ensures, (minute_taken c.args.p c.args.minute (accepted_with c.in_ok-accepted.ensures).0).1))

pub returns : goal.returns
unfolding asked_answer
returns g c = λ value gives.
    let taken = accepted_with c.in_ok-accepted.ensures in
    worked_out (minute_refusal c.args.p c.args.minute) (λ _. value) c.args.p c.in_ok-accepted.ensures
    (gives c.shown_fire.result c.of.result (c.shown_fire.ensures ∙ ap shown taken.1) (rw c.from.ensures at c.of.ensures))

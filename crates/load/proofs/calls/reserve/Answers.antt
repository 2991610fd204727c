-- `load::calls::reserve` meets its contract: the load minute of an accepted panel less a minute that is not above 360. Assumes
-- nothing.
use Rattle.std.proofs.Common.{Ok, ℕ, sym, ap, subst, ◌∙◌}
use Rattle.limits.proofs.Minutes.{minute_taken}
use Rattle.limits.specs.Asked.{minute_refusal, asked_answer}
use Rattle.refusals.proofs.FirstLine.{accepted_with, handed_on, goes_on}
use Rattle.load.proofs.EveryFire.{printed_most}
use Rattle.load.proofs.Reserves.{reserve_fits}
use Rattle.load.specs.Answers.{reserve_of, reserve_answer}
use Rattle.load.specs.LoadMinute.{printed_load}
use mir.Facts.{to_z-of_z}
use mir.Syntax.{w32}
use mir.Val.{SFits}
use Rattle.load.proofs.calls.reserve.Goals as goal

pub returns-in_err-accepted : goal.returns-in_err-accepted
unfolding reserve_answer asked_answer
returns-in_err-accepted c =
    let a = c.args in
    handed_on (minute_refusal a.p a.wanted) a.p (Ok (reserve_of a.wanted (printed_load a.p))) _ c.from_residual.result c.from_residual.ensures.1 c.in_err-accepted.ensures

pub of-requires : goal.of-requires
unfolding asked_answer
of-requires c = (minute_taken _ _ (accepted_with c.in_ok-accepted.ensures).0).1

pub returns : goal.returns
unfolding reserve_answer asked_answer
returns c =
    let a = c.args in
    let taken = accepted_with c.in_ok-accepted.ensures in
    let worked = c.reserve_of.ensures ∙ ap (reserve_of c.of.result) (c.load_minute_of.ensures ∙ ap printed_load taken.1) ∙ ap (λ (m : ℕ). reserve_of m (printed_load a.p)) c.of.ensures in
    let fits = reserve_fits (printed_load a.p) a.wanted (printed_most a.p) (minute_taken a.p a.wanted taken.0).1 in
    goes_on (minute_refusal a.p a.wanted) a.p c.in_ok-accepted.ensures
    (ap Ok (to_z-of_z (subst (SFits w32) (sym worked) fits) ∙ worked))

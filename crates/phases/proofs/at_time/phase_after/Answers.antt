-- `phases::at_time::phase_after` meets its contract. The loop's invariant: what will come out is unchanged.
use mathlib.Core.Path.{ap, subst, ◌∙◌}
use Rattle.charring.specs.Way.{way}
use Rattle.phases.specs.Phases.{phase_on}
use Rattle.charring.specs.Walk.{lines_left, Passed}
use Rattle.charring.specs.declared.Time.{Time}
use Rattle.phases.proofs.PhaseWalk.{phase_start, phase_stop, phase_more, phase_last}
use Rattle.phases.proofs.at_time.phase_after.Goals as goal

pub loop-line-init : goal.loop-line-init
loop-line-init c =
    let f = c.args.fire.now in
    let progress = c.at_failure-progress in (
      progress.ensures.at,
      phase_start f.panel c.args.at.q progress.result _ f.back progress.ensures.start
          (ap lines_left c.into_iter-line-iterator.ensures.into_iter_gives ∙ c.of-line-items.ensures) f.back_is
          ∙ ap (λ x. phase_on (way f.panel) x c.args.at.q) progress.ensures.left,
    )

pub returns-then-progress-fast : goal.returns-then-progress-fast
returns-then-progress-fast c =
    c.phase_in.ensures
    ∙ phase_stop c.args.at.q c.loop-line.progress c.args.fire.now.back c.in-Some.line _ _ c.in-Some.ensures.steps c.fast_part-fast.result
    c.settled_part-settled.result (rw c.loop-line.invariant.0 at c.fast_part-fast.ensures.0)
    (rw c.loop-line.invariant.0 at c.settled_part-settled.ensures.0) c.if-progress-fast.true
    ∙ c.loop-line.invariant.1

pub loop-line-preserved : goal.loop-line-preserved
loop-line-preserved c =
    let still = c.loop-line.invariant.0 in (
      c.pass-progress.ensures.at ∙ still,
      phase_more c.args.at.q c.loop-line.progress c.args.fire.now.back c.in-Some.line _ _ c.in-Some.ensures.steps c.fast_part-fast.result
          c.settled_part-settled.result (rw still at c.fast_part-fast.ensures.0) (rw still at c.settled_part-settled.ensures.0) c.pass-progress.result
          (subst (λ (t : Time). Passed t.q c.loop-line.progress c.in-Some.line c.pass-progress.result) still c.pass-progress.ensures.passed)
          c.if-progress-fast.false
          ∙ c.loop-line.invariant.1,
    )

pub returns : goal.returns
returns c =
    c.phase_in-2.ensures
    ∙ phase_last c.args.at.q c.loop-line.progress c.args.fire.now.back c.fast_part.result _ c.in-None.ensures.steps.0
    (rw (c.back_line.ensures.0, c.loop-line.invariant.0) at c.fast_part.ensures.0)
    ∙ c.loop-line.invariant.1

-- `charring::CharringValues::after` meets its contract. The loop's invariant: what will come out is unchanged.
use mathlib.Core.Path.{ap, subst, ◌∙◌}
use native.Mathlib.Omega.{arith}
use Rattle.charring.specs.Walk.{lines_left, Crossed, Passed}
use Rattle.charring.specs.declared.Time.{Time}
use Rattle.charring.proofs.WalkLaws.{walk_start, walk_more, walk_end}
use Rattle.charring.proofs.CharringValues.after.Goals as goal

pub loop-line-init : goal.loop-line-init
loop-line-init c =
    let f = c.args.self.now in
    let progress = c.at_failure-progress in (
      progress.ensures.at,
      walk_start f.panel c.args.at.n c.args.at.q progress.result _ f.back progress.ensures.start progress.ensures.left
          (ap lines_left c.into_iter-line-iterator.ensures.into_iter_gives ∙ c.of-line-items.ensures) f.back_is,
    )

pub loop-line-preserved : goal.loop-line-preserved
loop-line-preserved c =
    let still = c.loop-line.invariant.0 in (
      c.pass-progress.ensures.at ∙ still,
      walk_more c.args.at.q c.loop-line.progress c.pass-progress.result c.args.self.now.back c.in-Some.line _ _ c.in-Some.ensures.steps
          (subst (λ (t : Time). Passed t.q c.loop-line.progress c.in-Some.line c.pass-progress.result) still c.pass-progress.ensures.passed)
          ∙ c.loop-line.invariant.1,
    )

pub returns : goal.returns
returns c = (
  walk_end c.args.at.q c.loop-line.progress c.cross.result c.args.self.now.back c.args.self.now.back _ c.in-None.ensures.steps.0
      (subst (λ (t : Time). Crossed t.q c.loop-line.progress c.args.self.now.back c.args.self.now.back c.cross.result) c.loop-line.invariant.0
      (rw (c.back_line.ensures.0, c.back_line.ensures.1) at c.cross.ensures.crossed))
      ∙ c.loop-line.invariant.1,
  omega arith,
)

-- `charring::values::passed_end` meets its contract. The loop's invariant: what will come out is unchanged.
use mathlib.Core.Path.{◌∙◌}
use Rattle.charring.proofs.PassedLines.{end_passed, end_ahead, end_found}
use Rattle.charring.proofs.values.passed_end.Goals as goal

pub loop-line-preserved-then-line-deep : goal.loop-line-preserved-then-line-deep
loop-line-preserved-then-line-deep c =
    end_passed c.args.deep c.loop-line.end c.in-Some.line.at c.in-Some.line.end _ _ c.in-Some.ensures.steps c.if-line-deep.true
    ∙ c.loop-line.invariant

pub loop-line-preserved : goal.loop-line-preserved
loop-line-preserved c =
    end_ahead c.args.deep c.loop-line.end c.in-Some.line.at c.in-Some.line.end _ _ c.in-Some.ensures.steps c.if-line-deep.false
    ∙ c.loop-line.invariant

pub returns : goal.returns
returns c = end_found c.args.deep c.loop-line.end _ c.in-None.ensures.steps.0 ∙ c.loop-line.invariant

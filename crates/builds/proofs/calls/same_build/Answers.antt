-- `builds::calls::same_build` meets its contract: the panels are compared where neither is refused, the first before the second.
-- Assumes nothing.
use Rattle.std.proofs.Common.{Ok, ap, ◌∙◌}
use Rattle.refusals.proofs.FirstLine.{accepted_with, goes_on}
use Rattle.limits.specs.Answers.{accepted_answer}
use Rattle.builds.specs.Answers.{compared}
use Rattle.refusals.specs.Refusals.{panel_refusal}
use Rattle.builds.specs.Builds.{same_build}
use mathlib.Core.Path.{ap₂}
use Rattle.builds.proofs.calls.same_build.Goals as goal

pub returns : goal.returns
unfolding compared accepted_answer
returns c =
    let a = c.args in
    goes_on (panel_refusal a.a) a.a c.in_ok-first.ensures
    (goes_on (panel_refusal a.b) a.b c.in_ok-second.ensures
    (ap Ok
    (c.is_same_build.ensures
    ∙ ap₂ same_build (accepted_with c.in_ok-first.ensures).1 (accepted_with c.in_ok-second.ensures).1)))

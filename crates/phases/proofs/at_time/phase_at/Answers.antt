-- `phases::at_time::phase_at` meets its contract: each test is one of the definition's. Assumes nothing.
use mathlib.Core.Path.{◌∙◌}
use Rattle.phases.proofs.PhaseTests.{is_through, is_untouched, is_under, is_after}
use Rattle.phases.proofs.at_time.phase_at.Goals as goal

pub returns-then-scaled-char : goal.returns-then-scaled-char
returns-then-scaled-char c =
    is_through c.args.fire.now c.args.at.n c.args.at.q c.char.result c.scaled.result c.char.ensures.0 c.scaled.ensures.0
    c.if-scaled-char.true

pub returns-then-time-scaled : goal.returns-then-time-scaled
returns-then-time-scaled c =
    is_untouched c.args.fire.now c.args.at.n c.args.at.q c.char.result c.scaled.result c.char.ensures.0 c.scaled.ensures.0 c.if-scaled-char.false
    c.scaled-2.result c.scaled-2.ensures.0 c.if-time-scaled.true

pub returns-then-time-scaled-2 : goal.returns-then-time-scaled-2
returns-then-time-scaled-2 c =
    is_under c.args.fire.now c.args.at.n c.args.at.q c.char.result c.scaled.result c.char.ensures.0 c.scaled.ensures.0 c.if-scaled-char.false
    c.scaled-2.result c.scaled-2.ensures.0 c.if-time-scaled.false c.scaled-3.result c.scaled-3.ensures.0 c.if-time-scaled-2.true

pub returns : goal.returns
returns c =
    c.phase_after.ensures
    ∙ is_after c.args.fire.now c.args.at.n c.args.at.q c.char.result c.scaled.result c.char.ensures.0 c.scaled.ensures.0 c.if-scaled-char.false
    c.scaled-2.result c.scaled-2.ensures.0 c.if-time-scaled.false c.scaled-3.result c.scaled-3.ensures.0 c.if-time-scaled-2.false

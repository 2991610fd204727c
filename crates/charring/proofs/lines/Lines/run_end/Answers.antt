-- `charring::lines::Lines::run_end` meets its contract: a next line is there where two lamellae are left. Assumes nothing.
use native.Mathlib.Omega.{arith}
use Rattle.charring.proofs.ByThickness.{end_far, end_near}
use Rattle.charring.proofs.lines.Lines.run_end.Goals as goal

pub returns-in_default : goal.returns-in_default
returns-in_default c = let lines = c.args.self.now in (end_far lines.top lines.rest.now c.in_default.len_below, omega arith)

pub returns-in-len2-up : goal.returns-in-len2-up
returns-in-len2-up c =
    let lines = c.args.self.now in
    (end_near lines.top c.min.result lines.rest.now c.in-len2-up.len_at_least (cc), omega arith)

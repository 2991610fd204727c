-- `charring::lines::Lines::of` meets its contract: directions do not matter. Assumes nothing.
use native.Mathlib.Omega.{arith}
use Rattle.charring.proofs.ByThickness.{nothing_within, within_panel, no_lines, lines_of_panel}
use Rattle.charring.proofs.lines.Lines.of.Goals as goal

pub invariant_of-result : goal.invariant_of-result
invariant_of-result c = record { within = nothing_within }

pub returns-then-p-ne1 : goal.returns-then-p-ne1
returns-then-p-ne1 c = no_lines c.args.p.now c.if-p-ne1.true

pub invariant_of-result-2 : goal.invariant_of-result-2
invariant_of-result-2 c = record { within = within_panel c.args.p.now (omega arith) c.requires.1 }

pub returns : goal.returns
returns c = lines_of_panel c.args.p.now (omega arith) c.if-p-ne1.false

-- `charring::values::passed_end` meets its contract. The loop's invariant: what will come out is unchanged. Assumes nothing.
use mathlib.Core.Path.{◌≡◌}
use Rattle.charring.specs.Rates.{passed_end}
use Rattle.charring.specs.Walk.{lines_left}
use Rattle.charring.proofs.values.passed_end.Given as goal

abbrev pub invariant-loop-line : goal.invariant-loop-line
invariant-loop-line l = passed_end l.deep l.end (lines_left l.line-iterator) ≡ passed_end l.deep l.intact (lines_left l.fn.lines)

-- `charring::CharringValues::after` meets its contract. The loop's invariant: what will come out is unchanged. Assumes nothing.
use mathlib.Core.Path.{◌≡◌}
use Rattle.charring.specs.Depths.{after_at}
use Rattle.charring.specs.Walk.{lines_left}
use Rattle.charring.proofs.WalkLaws.{total_charred}
use Rattle.charring.proofs.CharringValues.after.Given as goal

abbrev pub invariant-loop-line : goal.invariant-loop-line
invariant-loop-line l =
    (l.progress.at ≡ l.fn.at) × (total_charred l.fn.at.q l.progress (lines_left l.line-iterator) l.self.back ≡ after_at l.self.panel l.fn.at.n l.fn.at.q)

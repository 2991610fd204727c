-- `phases::table::fill` meets its contract: after i rounds the first i depths stand before what was there. Assumes nothing.
use Prim.Native.Nat.{ℕ}
use Rattle.charring.specs.Depths.{micrometres_at}
use Rattle.numbers.specs.Firsts.{firsts}
use lib.ListN.{drop}
use mathlib.Core.List.{◌++◌}
use mathlib.Core.Path.{◌≡◌}
use Rattle.phases.proofs.table.fill.Given as goal

abbrev pub invariant-loop-minute : goal.invariant-loop-minute
invariant-loop-minute l =
    l.depth-items ≡ firsts (λ (minute : ℕ). micrometres_at l.fire.panel minute 1) l.minute ++ drop l.minute l.initial.depth-items

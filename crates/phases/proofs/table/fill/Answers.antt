-- `phases::table::fill` meets its contract: after i rounds the first i depths stand before what was there.
use Prim.Native.Nat.{ℕ}
use Rattle.phases.proofs.Replies.{fill_more, fill_end}
use Rattle.phases.specs.Answers.{depth_table}
use Rattle.charring.specs.Depths.{micrometres_at}
use Rattle.numbers.specs.Firsts.{firsts}
use lib.ListN.{take, drop, set, length-take}
use mathlib.Core.List.{List, ◌++◌}
use mathlib.Core.Path.{refl, ap, ◌∙◌}
use native.Mathlib.Omega.{arith}
use Rattle.phases.proofs.table.fill.Goals as goal

pub loop-minute-init : goal.loop-minute-init
unfolding firsts
loop-minute-init c = refl

pub micrometres-requires : goal.micrometres-requires
micrometres-requires c = omega (arith, length-take 361 c.args.out.now)

pub loop-minute-preserved : goal.loop-minute-preserved
loop-minute-preserved c =
    ap (set c.loop-minute.depth-items c.loop-minute.minute) c.micrometres.ensures
    ∙ fill_more (λ (minute : ℕ). micrometres_at c.args.fire.now.panel minute 1) (take 361 c.args.out.now) c.loop-minute.minute
    c.loop-minute.depth-items (omega arith) c.loop-minute.invariant

pub returns : goal.returns
unfolding depth_table
returns c =
    let whole = length-take 361 c.args.out.now in
    ap (λ (xs : List ℕ). xs ++ drop 361 c.args.out.now)
    (fill_end (λ (minute : ℕ). micrometres_at c.args.fire.now.panel minute 1) (take 361 c.args.out.now) c.loop-minute.minute 361
    c.loop-minute.depth-items c.loop-minute.invariant (omega (arith, c.loop-minute.auto.minute-end, whole)) (omega (arith, whole)))

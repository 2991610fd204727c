-- `layers::step::Step::late_time` meets its contract: smaller numbers keep the test too, so what is found is the largest. Assumes nothing.
use Rattle.layers.proofs.LateTimes.{late_zero, late_down}
use Rattle.layers.specs.Layers.{late_keeps}
use Rattle.numbers.proofs.Searching.{largest_searched}
use borrow.Author.Rules.{rules}
use mathlib.Core.Path.{refl}
use native.Mathlib.Omega.{arith}
use Rattle.layers.proofs.step.Step.late_time.Goals as goal

pub returns : goal.returns
returns c =
    let s = c.args.self.before in
    let t = c.args.self.basic in
    let found = c.last_keeping.ensures in
    let below = found.below in
    (largest_searched (late_keeps s t) (late_down s t) (late_zero s t) (λ n b k. search rules) found t refl, omega arith)

-- `layers::step::Step::position` meets its contract: the test says which of the two cases holds. Assumes nothing.
use Prim.Native.Nat.{◌*◌}
use Rattle.layers.specs.Layers.{positioned}
use borrow.Author.Tests.{le-leb, lt-leb}
use native.Mathlib.Omega.{arith}
use Rattle.layers.proofs.step.Step.position.Goals as goal

pub returns-then-self : goal.returns-then-self
unfolding positioned
returns-then-self c =
    let x = c.args.self in (rw (positioned, le-leb (2 * x.before) x.basic c.if-self.true), omega arith)

pub returns-else-self : goal.returns-else-self
unfolding positioned
returns-else-self c =
    let x = c.args.self in (
      rw (positioned, lt-leb (2 * x.before) x.basic c.if-self.false) c.late_time.ensures.0,
      c.late_time.ensures.1,
    )

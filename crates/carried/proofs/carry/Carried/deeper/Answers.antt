-- `carried::carry::Carried::deeper` meets its contract: one step, with the lamella that is cut. Assumes nothing.
use Prim.Native.Nat.{◌<◌}
use native.Mathlib.Omega.{arith}
use Rattle.panel.specs.Lent.{lamellae_in}
use Rattle.panel.proofs.Used.{thickness_parts}
use Rattle.carried.proofs.CarriedAlong.{one_deeper, step_fits}
use Rattle.carried.proofs.carry.Carried.deeper.Goals as goal
use Rattle.carried.proofs.carry.Carried.deeper.Goals.{Joined-self, then-self, else-self+in_ok-cut}

-- the depth lies in the lamella that is cut
inside : (c : Joined-self) → c.if-self.cut.depth < c.if-self.cut.end
inside c =
    elim c.if-self.branch [
      | then-self w ↦ rw w.cut-is w.if-self.true
      | else-self+in_ok-cut w ↦ rw w.cut-is w.in_ok-cut.ensures.1.1
    ]

pub step_of-cut-requires : goal.step_of-cut-requires
step_of-cut-requires c = step_fits c.if-self.cut (inside (goal.at.step_of-cut-requires c).Joined-self)

-- so the step cuts it, and the rest is found from what holds before
pub invariant_of-cut-clause-carried : goal.invariant_of-cut-clause-carried
invariant_of-cut-clause-carried c = one_deeper c.if-self.cut _ (inside (goal.at.invariant_of-cut-clause-carried c).Joined-self) c.step_of-cut.ensures

pub invariant_of-cut-clause-within : goal.invariant_of-cut-clause-within
invariant_of-cut-clause-within c =
    let cut = c.if-self.cut in
    omega (arith, inside (goal.at.invariant_of-cut-clause-within c).Joined-self, cut.ends, thickness_parts (lamellae_in cut.lamellae) cut.place)

pub invariant_of-cut-clause-to : goal.invariant_of-cut-clause-to
invariant_of-cut-clause-to c = omega (arith, inside (goal.at.invariant_of-cut-clause-to c).Joined-self)

-- `load::seconds::last_passing` meets its contract: every depth to the present one passes, and the first that does not decides. Assumes
-- nothing.
use Prim.Native.Nat.{◌-◌}
use Rattle.load.specs.Failure.{EveryTenthPasses}
use Rattle.load.specs.Reach.{passes_with}
use Rattle.panel.specs.Lamellae.{Lamella, thickness}
use Rattle.panel.specs.Lent.{lamellae_in}
use Rattle.carried.specs.declared.carry.Carried.{Carried}
use Rattle.section.specs.declared.test.DesignValues.{DesignValues}
use mathlib.Core.List.{List}
use mathlib.Core.Path.{◌≡◌}
use Rattle.load.proofs.seconds.last_passing.Given as goal

-- carried along the same lamellae, to a depth to which every depth passes
pub record Passing (v : DesignValues) (ls : List Lamella) (c : Carried) : Type 0 where
  pub along : lamellae_in c.lamellae ≡ ls
  pub every : EveryTenthPasses (passes_with v ls) c.depth

abbrev pub invariant-loop-next : goal.invariant-loop-next
invariant-loop-next l = Passing l.design (lamellae_in l.initial.c.lamellae) l.c

abbrev pub decreases-loop-next : goal.decreases-loop-next
decreases-loop-next l = thickness (lamellae_in l.initial.c.lamellae) - l.c.depth

-- `load::reach::Reach::reaching` meets its contract: what is asked is split where all depths before pass. Assumes nothing.
use Prim.Native.Nat.{◌≤◌}
use mathlib.Core.Bool.{Bool, ◌&&◌}
use mathlib.Core.Path.{sym, ap, ◌∙◌}
use native.Mathlib.Nat.{le_refl}
use native.Mathlib.Omega.{arith}
use Rattle.panel.specs.Lent.{lamellae_in}
use Rattle.load.specs.LoadMinute.{every_through}
use Rattle.load.specs.Reach.{carries_with, passes_with}
use Rattle.load.proofs.EveryDepth.{through_each, through_split}
use Rattle.load.proofs.reach.Reach.reaching.Goals as goal

pub invariant_of-result : goal.invariant_of-result
invariant_of-result c =
    let r = c.args.self in
    let v = r.design in
    let to = c.args.to in
    let order : r.reached ≤ to = omega (arith, c.requires.further) in
    record {
      short = r.short;
      here = c.requires.deep_here;
      passes = ap (carries_with v) c.requires.deep_here
          ∙ through_each (passes_with v (lamellae_in r.lamellae)) r.reached to order c.requires.pass to order (le_refl to);
      within = c.requires.further.1;
      last_most = r.last_most;
      ahead_least = omega (arith, c.requires.further);
      ahead_most = omega (arith, c.requires.further, r.last_most);
    }

pub returns-clause-same : goal.returns-clause-same
returns-clause-same c =
    let r = c.args.self in
    let passes = passes_with r.design (lamellae_in r.lamellae) in
    let further = c.requires.further in
    sym
    (through_split passes r.reached c.args.to r.last (omega arith) (omega arith)
    ∙ ap (λ (b : Bool). b && every_through passes c.args.to r.last) c.requires.pass)

-- `load::lasting::every_depth_passes` meets its contract: what is still asked of the depths is what was asked at first. Assumes nothing.
use mathlib.Core.Path.{◌≡◌, sym, ap, ◌∙◌}
use native.Mathlib.Omega.{arith}
use Rattle.panel.specs.Lent.{lamellae_in}
use Rattle.load.specs.Reach.{carries_with, passes_with}
use Rattle.load.proofs.EveryDepth.{through_one}
use Rattle.load.proofs.lasting.every_depth_passes.Goals as goal

pub returns : goal.returns
returns c =
    let r = c.loop-reach.reach in
    let within = r.within in
    let end : r.reached ≡ r.last = omega (arith, c.loop-reach-test.false) in
    sym
    (sym c.loop-reach.invariant
    ∙ through_one (passes_with r.design (lamellae_in r.lamellae)) r.reached r.last end
    ∙ sym (ap (carries_with r.design) r.here)
    ∙ r.passes)

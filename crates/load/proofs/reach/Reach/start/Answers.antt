-- `load::reach::Reach::start` meets its contract: the first depth is among those that are asked. Assumes nothing.
use mathlib.Core.Path.{sym, ap, ◌∙◌}
use native.Mathlib.Nat.{le_refl}
use Rattle.panel.specs.Lent.{lamellae_in}
use Rattle.load.specs.Reach.{carries_with, passes_with}
use Rattle.load.proofs.EveryDepth.{one_fails}
use Rattle.load.proofs.reach.Reach.start.Goals as goal

pub returns-then-not-section_passes : goal.returns-then-not-section_passes
returns-then-not-section_passes c =
    let v = c.args.design in
    let first = c.args.first in
    let order = c.requires.order.0 in
    one_fails (passes_with v (lamellae_in c.args.lamellae)) first c.args.last order first (le_refl first) order
    (sym (c.section_passes.ensures ∙ ap (carries_with v) c.section_in-shallow.ensures) ∙ c.if-not-section_passes.true)

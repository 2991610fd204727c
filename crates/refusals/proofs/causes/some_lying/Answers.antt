-- `refusals::causes::some_lying` meets its contract: a lamella lies in a direction where its direction is that one. Assumes nothing.
use mathlib.Core.Path.{sym, ap, ◌∙◌}
use lib.Dec.{eqb}
use Rattle.std.specs.List.{list_any}
use Rattle.panel.proofs.Lent.{directions_in}
use Rattle.panel.specs.Lent.{lamellae_in}
use Rattle.refusals.proofs.Tests.{lying_some}
use Rattle.refusals.proofs.causes.some_lying.Goals as goal

pub returns : goal.returns
returns c =
    let l = c.args.lamellae in
    let d = c.args.direction in
    c.contains.ensures.value ∙ sym (lying_some d (lamellae_in l) ∙ ap (list_any (λ g. eqb g d)) (directions_in l))

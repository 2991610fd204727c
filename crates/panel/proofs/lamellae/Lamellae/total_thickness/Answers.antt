-- `panel::lamellae::Lamellae::total_thickness` meets its contract: the sum of the thicknesses is the lamellae's. Assumes nothing.
use mathlib.Core.Path.{sym, ◌∙◌}
use native.Mathlib.Omega.{arith}
use Rattle.panel.proofs.Lent.{thickness_in, length_in}
use Rattle.panel.proofs.lamellae.Lamellae.total_thickness.Goals as goal

pub sum_of-requires : goal.sum_of-requires
sum_of-requires c =
    let l = c.args.self in
    omega (arith, l.aligned, length_in l, c.requires)

pub returns : goal.returns
returns c = c.sum_of.ensures ∙ sym (thickness_in c.args.self)

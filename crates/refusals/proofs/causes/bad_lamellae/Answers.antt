-- `refusals::causes::bad_lamellae` meets its contract: a panel has at most nine lamellae. Assumes nothing.
use Rattle.panel.proofs.Lent.{nine_lamellae}
use Rattle.refusals.proofs.causes.bad_lamellae.Goals as goal

pub total_thickness-requires : goal.total_thickness-requires
total_thickness-requires c = rw c.lamellae-lamellae.ensures (nine_lamellae c.args.p c.requires)

-- `limits::check::Accepted::shown` meets its contract: the fire that is shown is that of an accepted panel. Assumes nothing.
use Rattle.limits.proofs.Accepted.{accepted_fits}
use Rattle.refusals.proofs.Turned.{shown_accepted}
use Rattle.limits.proofs.check.Accepted.shown.Goals as goal

pub shown-requires : goal.shown-requires
shown-requires c = (accepted_fits c.self.inside.panel c.self.invariant).count

pub invariant_of-result : goal.invariant_of-result
invariant_of-result c = rw c.shown.ensures (shown_accepted c.self.inside.panel c.self.invariant)

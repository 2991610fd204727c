-- `limits::check::Accepted::turned` meets its contract: a turned panel meets the lines of the panel. Assumes nothing.
use Rattle.std.proofs.Common.{◌∙◌}
use Rattle.limits.proofs.Accepted.{accepted_fits}
use Rattle.refusals.proofs.Turned.{refusal_turned}
use Rattle.limits.proofs.check.Accepted.turned.Goals as goal

pub turned-requires : goal.turned-requires
turned-requires c = (accepted_fits c.self.inside.panel c.self.invariant).count

pub invariant_of-result : goal.invariant_of-result
invariant_of-result c = rw c.turned.ensures (refusal_turned c.self.inside.panel ∙ c.self.invariant)

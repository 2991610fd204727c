-- `limits::check::Accepted::panel` meets its contract: an accepted panel keeps every limit. Assumes nothing.
use Rattle.limits.proofs.Accepted.{accepted_keeps}
use Rattle.limits.proofs.check.Accepted.panel.Goals as goal

pub returns-clause-keeps : goal.returns-clause-keeps
returns-clause-keeps c = accepted_keeps c.self.inside.panel c.self.invariant

-- `limits::check::Accepted::of` meets its contract: it is the table of a panel without bytes. Assumes nothing.
use Rattle.limits.specs.Answers.{accepted_answer}
use Rattle.refusals.specs.Refusals.{panel_refusal}
use Rattle.limits.proofs.check.Accepted.of.Goals as goal

pub returns : goal.returns
unfolding accepted_answer panel_refusal
returns c = c.in_bytes.ensures

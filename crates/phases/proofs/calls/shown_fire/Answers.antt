-- `phases::calls::shown_fire` meets its contract: of an accepted panel the fire that is shown fits. Assumes nothing.
use Rattle.std.proofs.Common.{◌∙◌}
use Rattle.charring.proofs.Accepted.{fire_fits}
use Rattle.phases.proofs.calls.shown_fire.Goals as goal

pub of-requires : goal.of-requires
of-requires c = fire_fits c.panel.result c.panel.ensures.accepted

pub returns : goal.returns
returns c = c.of.ensures ∙ c.panel.ensures.panel ∙ c.shown.ensures

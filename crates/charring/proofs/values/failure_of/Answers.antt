-- `charring::values::failure_of` meets its contract: the choice is that of the definition. Assumes nothing.
use Rattle.charring.specs.Rates.{failure_of}
use Rattle.charring.proofs.values.failure_of.Goals as goal

pub returns-then-type_f : goal.returns-then-type_f
unfolding failure_of
returns-then-type_f c = cc

pub returns-else-type_f : goal.returns-else-type_f
unfolding failure_of
returns-else-type_f c = cc

-- `load::minutes::load_seconds_of` meets its contract: the lesser of the fires' seconds is at most 360 minutes. Assumes nothing.
use Rattle.std.proofs.Common.{◌≡◌, rules, ap, ◌∙◌}
use native.Mathlib.Omega.{arith}
use Rattle.load.proofs.EveryFire.{printed_seconds_most, minutes_printed}
use Rattle.load.specs.LoadMinute.{load_seconds, printed_load_seconds, minutes_in}
use Rattle.load.proofs.minutes.load_seconds_of.Goals as goal
use Rattle.load.proofs.minutes.load_seconds_of.Goals.{After-least_of_fires}

least : (c : After-least_of_fires) → c.least_of_fires.result ≡ printed_load_seconds c.args.accepted
least c = c.least_of_fires.ensures.least load_seconds (λ p n k. search rules)

pub overflow_cast-result : goal.overflow_cast-result
overflow_cast-result c =
    omega (arith, least (goal.at.overflow_cast-result c).After-least_of_fires, printed_seconds_most c.args.accepted)

pub returns-clause-minutes : goal.returns-clause-minutes
returns-clause-minutes c =
    ap minutes_in (least (goal.at.returns-clause-minutes c).After-least_of_fires)
    ∙ minutes_printed c.args.accepted c.least_of_fires.ensures.accepted

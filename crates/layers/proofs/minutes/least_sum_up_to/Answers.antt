-- `layers::minutes::least_sum_up_to` meets its contract: the lesser of two sums as far as enough is the lesser sum so far. Assumes nothing.
use Prim.Native.Nat.{min}
use Rattle.layers.proofs.EachFire.{least_sum_up_to}
use Rattle.layers.specs.Layers.{ei_sum}
use Rattle.panel.specs.declared.Panel.{Panel}
use borrow.Author.Rules.{rules}
use mathlib.Core.Path.{◌∙◌}
use Rattle.layers.proofs.minutes.least_sum_up_to.Goals as goal

pub returns : goal.returns
returns c =
    c.least_of_fires.ensures.least (λ (p : Panel). min (ei_sum p) c.args.enough) (λ p n post. search rules)
    ∙ least_sum_up_to c.args.enough c.args.accepted

-- `charring::values::k2_of` meets its contract: each arm is one case of `k2`. Assumes nothing.
use Prim.Native.Nat.{ℕ, ◌-◌, ◌*◌}
use mathlib.Core.Logic.{⊎_elim}
use mathlib.Core.Path.{ap, ◌∙◌}
use Rattle.charring.specs.Rates.{k2}
use Rattle.charring.proofs.values.k2_of.Goals as goal

pub returns-in-Unclad : goal.returns-in-Unclad
unfolding k2
returns-in-Unclad c = rw c.in-Unclad.is

pub returns-in-One : goal.returns-in-One
unfolding k2
returns-in-One c =
    c.saturating_sub.ensures
    ∙ ap (λ (h : ℕ). 10000 - 18 * h) c.from.ensures
    ∙ ⊎_elim (λ one. rw one) (λ two. rw two.1) c.in-One.is

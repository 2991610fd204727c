-- Unused places do not matter: panels that differ at most there have the same EI and meet the same refusals.
use mathlib.Core.Path.{◌≡◌, refl}
use Rattle.panel.specs.declared.Panel.{Panel}
use Rattle.panel.specs.Lamellae.{SameUsed}
use Rattle.panel.proofs.Used.{lamellae_cleared, unused}
use Rattle.panel.proofs.Turning.{least_same}
use Rattle.refusals.specs.Lines.{unless_refused}
use Rattle.refusals.proofs.Unused.{refusal_unused}
use Rattle.layers.specs.Layers.{ei_sum_in, ei_sum, ei_minute, printed_ei}
use Rattle.layers.specs.Answers.{ei_answer, ei_sum_answer}

sum_unused : (p q : Panel) → SameUsed p q → ei_sum p ≡ ei_sum q
unfolding ei_sum_in
sum_unused = unused ei_sum (λ p. rw (lamellae_cleared p) refl)

minute_unused : (p q : Panel) → SameUsed p q → ei_minute p ≡ ei_minute q
minute_unused p q h = rw (sum_unused p q h) refl

pub printed_ei_same : (p q : Panel) → SameUsed p q → printed_ei p ≡ printed_ei q
printed_ei_same = least_same ei_minute minute_unused

pub ei_sum_unused : (p q : Panel) → SameUsed p q → ei_sum_answer p ≡ ei_sum_answer q
unfolding ei_sum_answer
ei_sum_unused p q h = λ i. unless_refused (refusal_unused p q h i) (least_same ei_sum sum_unused p q h i)

pub ei_unused : (p q : Panel) → SameUsed p q → ei_answer p ≡ ei_answer q
unfolding ei_answer
ei_unused p q h = λ i. unless_refused (refusal_unused p q h i) (printed_ei_same p q h i)

-- Unused places do not matter: panels that differ at most there are compared alike.
use mathlib.Core.Path.{◌≡◌, refl, ◌∙◌}
use Rattle.panel.specs.declared.Panel.{Panel}
use Rattle.panel.specs.Lamellae.{cleared, SameUsed}
use Rattle.panel.proofs.Used.{lamellae_cleared, cleared_same, unused}
use Rattle.refusals.proofs.Unused.{refusal_unused}
use Rattle.builds.specs.Answers.{compared, build_answer}

pub build_unused : (a b p q : Panel) → SameUsed a p → SameUsed b q → build_answer a b ≡ build_answer p q
unfolding compared
build_unused a b p q h k =
    unused (λ (a : Panel). build_answer a b)
    (λ a. rw (refusal_unused (cleared a) a (cleared_same a), lamellae_cleared a) refl) a p h
    ∙ unused (build_answer p) (λ b. rw (refusal_unused (cleared b) b (cleared_same b), lamellae_cleared b) refl) b q k

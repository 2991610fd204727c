-- Unused places do not matter: panels that differ at most there get the same refusal and the same answers.
use Prim.Native.Nat.{ℕ}
use mathlib.Core.Path.{◌≡◌, refl}
use Rattle.panel.specs.declared.Panel.{Panel}
use Rattle.panel.specs.Lamellae.{SameUsed}
use Rattle.panel.specs.Faces.{shown}
use Rattle.panel.proofs.Used.{lamellae_cleared, unused}
use Rattle.panel.proofs.Turning.{shown_same}
use Rattle.section.specs.Tests.{section_at, depth_passes}
use Rattle.refusals.specs.Lines.{unless_refused}
use Rattle.limits.specs.Answers.{section_answer}
use Rattle.refusals.proofs.Unused.{refusal_unused}

pub section_same : (p q : Panel) → SameUsed p q → (depth : ℕ) → section_at p depth ≡ section_at q depth
section_same p q h depth = unused (λ (p : Panel). section_at p depth) (λ p. rw (lamellae_cleared p) refl) p q h

pub passes_same : (p q : Panel) → SameUsed p q → (depth : ℕ) → depth_passes p depth ≡ depth_passes q depth
passes_same p q h depth = unused (λ (p : Panel). depth_passes p depth) (λ p. rw (lamellae_cleared p) refl) p q h

pub section_unused : (p q : Panel) → SameUsed p q → (depth : ℕ) → section_answer p depth ≡ section_answer q depth
unfolding section_answer
section_unused p q h depth =
    let fire = shown_same p q h in
    λ i. unless_refused (refusal_unused p q h i) (section_same (shown p) (shown q) fire depth i, passes_same (shown p) (shown q) fire depth i)

-- Unused places do not matter to the writer: panels that differ at most there get the same answer and leave the same bytes.
use Prim.Native.Nat.{ℕ}
use mathlib.Core.Path.{◌≡◌, refl, ap₂}
use mathlib.Core.List.{List, [], ◌∷◌, ◌++◌}
use lib.ListN.{length}
use lib.Dec.{ltb}
use Rattle.panel.specs.declared.Panel.{Panel}
use Rattle.panel.specs.Lamellae.{SameUsed}
use Rattle.panel.proofs.Used.{lamellae_cleared, count_cleared, unused}
use Rattle.refusals.specs.Lines.{Line, line, refusal}
use Rattle.refusals.proofs.Unused.{lines_unused}
use Rattle.record.specs.Layouts.{record_length, encode}
use Rattle.record.specs.Refusals.{write_refusal}
use Rattle.record.specs.Answers.{write_answer, space_after}

length_unused : (p q : Panel) → SameUsed p q → record_length p ≡ record_length q
length_unused = unused record_length (λ p. rw (count_cleared p) refl)

encode_unused : (p q : Panel) → SameUsed p q → encode p ≡ encode q
unfolding encode
encode_unused = unused encode (λ p. rw (lamellae_cleared p, count_cleared p) refl)

write_refusal_unused : (p q : Panel) → SameUsed p q → (space : List ℕ) → write_refusal p space ≡ write_refusal q space
unfolding write_refusal
write_refusal_unused p q h space =
    ap₂ (λ (ls : List Line) (n : ℕ). refusal (ls ++ (line 14 (ltb (length space) n) ∷ []))) (lines_unused p q h) (length_unused p q h)

pub write_unused : (p q : Panel) → SameUsed p q → (space : List ℕ) → write_answer p space ≡ write_answer q space
unfolding write_answer
write_unused p q h space = rw (write_refusal_unused p q h space, length_unused p q h) refl

pub space_unused : (p q : Panel) → SameUsed p q → (space : List ℕ) → space_after p space ≡ space_after q space
unfolding space_after
space_unused p q h space = rw (write_refusal_unused p q h space, encode_unused p q h, length_unused p q h) refl

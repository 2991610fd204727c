-- Unused places do not matter: panels that differ at most there have the same phases and depth table and meet the same refusals.
use Prim.Native.Nat.{ℕ, ◌-◌, ◌*◌}
use mathlib.Core.Path.{◌≡◌, refl, ap}
use mathlib.Core.List.{List, ◌++◌}
use lib.ListN.{drop}
use Rattle.numbers.proofs.FirstValues.{firsts_agree}
use Rattle.panel.specs.declared.Panel.{Panel}
use Rattle.panel.specs.Lamellae.{cleared, SameUsed, thickness}
use Rattle.panel.specs.Faces.{shown}
use Rattle.panel.proofs.Used.{lamellae_cleared, unused}
use Rattle.panel.proofs.Rates.{rate_cleared}
use Rattle.panel.proofs.Turning.{shown_same}
use Rattle.refusals.specs.Lines.{Line, refusal, answer, unless_refused}
use Rattle.refusals.proofs.Unused.{lines_unused}
use Rattle.limits.proofs.Minutes.{minute_refusal_same}
use Rattle.charring.specs.Rates.{tenth, failure_of}
use Rattle.charring.specs.Depths.{round_up, micrometres_at}
use Rattle.charring.proofs.Unused.{way_cleared, char_cleared, char_same, tenths_same}
use Rattle.phases.specs.Phases.{phase_on, phase_from, phase_at}
use Rattle.phases.specs.Answers.{
  table_refusal,
  phase_answer,
  char_answer,
  effective_answer,
  depth_table,
  table_answer,
  table_after,
}
use Rattle.phases.proofs.Replies.{short}

-- Phases

phase_cleared : (p : Panel) (n m : ℕ) → phase_at (cleared p) n m ≡ phase_at p n m
unfolding phase_at failure_of
phase_cleared p n m =
    λ i. phase_from p (char_cleared p n m i) (tenth * thickness (lamellae_cleared p i))
    (phase_on (way_cleared p i) (2 * (10000 * rate_cleared p i) * (1000 * n - m * failure_of p)) m) n m

pub phase_same : (p q : Panel) → SameUsed p q → (n m : ℕ) → phase_at p n m ≡ phase_at q n m
phase_same p q h n m = unused (λ (p : Panel). phase_at p n m) (λ p. phase_cleared p n m) p q h

-- Answers

table_refusal_same : (p q : Panel) → SameUsed p q → (space : List ℕ) → table_refusal p space ≡ table_refusal q space
unfolding table_refusal
table_refusal_same p q h space = ap (λ (ls : List Line). refusal (ls ++ short space)) (lines_unused p q h)

pub phase_unused : (p q : Panel) → SameUsed p q → (minute : ℕ) → phase_answer p minute ≡ phase_answer q minute
unfolding phase_answer
phase_unused p q h minute =
    λ i. unless_refused (minute_refusal_same p q h minute i) (phase_same (shown p) (shown q) (shown_same p q h) minute 1 i)

pub char_unused : (p q : Panel) → SameUsed p q → (minute : ℕ) → char_answer p minute ≡ char_answer q minute
unfolding char_answer
char_unused p q h minute =
    λ i. unless_refused (minute_refusal_same p q h minute i)
    (round_up (char_same (shown p) (shown q) (shown_same p q h) minute 1 i) (2000000 * 1))

pub effective_unused : (p q : Panel) → SameUsed p q → (minute : ℕ) → effective_answer p minute ≡ effective_answer q minute
unfolding effective_answer
effective_unused p q h minute =
    λ i. unless_refused (minute_refusal_same p q h minute i) (tenths_same (shown p) (shown q) (shown_same p q h) minute 1 i)

pub table_same : (p q : Panel) → SameUsed p q → depth_table p ≡ depth_table q
unfolding depth_table
table_same p q h =
    firsts_agree (λ (minute : ℕ). micrometres_at p minute 1) (λ (minute : ℕ). micrometres_at q minute 1) 361
    (λ minute k. rw (char_same p q h minute 1) refl)

pub table_unused : (p q : Panel) → SameUsed p q → (space : List ℕ) → table_answer p space ≡ table_answer q space
unfolding table_answer
table_unused p q h space = rw (table_refusal_same p q h space) refl

pub table_after_unused : (p q : Panel) → SameUsed p q → (space : List ℕ) → table_after p space ≡ table_after q space
unfolding table_after
table_after_unused p q h space =
    λ i. answer (table_refusal_same p q h space i) (λ (n : ℕ). space)
    (table_same (shown p) (shown q) (shown_same p q h) i ++ drop 361 space)

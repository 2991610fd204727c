-- Unused places do not matter: panels that differ at most there pass at the same times and get the same answers.
use Prim.Native.Nat.{ℕ}
use mathlib.Core.Path.{◌≡◌}
use Rattle.panel.specs.declared.Panel.{Panel}
use Rattle.panel.specs.Lamellae.{SameUsed}
use Rattle.panel.proofs.Turning.{least_same}
use Rattle.section.specs.Tests.{depth_passes}
use Rattle.refusals.specs.Lines.{unless_refused}
use Rattle.refusals.proofs.Unused.{refusal_unused}
use Rattle.limits.proofs.Unused.{passes_same}
use Rattle.limits.proofs.Minutes.{minute_refusal_same}
use Rattle.charring.proofs.Unused.{tenths_same}
use Rattle.load.specs.Failure.{EveryTenthPasses, TimePasses}
use Rattle.load.specs.LoadMinute.{every_from, time_test, whole_part, load_minute, printed_load, load_seconds, printed_load_seconds}
use Rattle.load.specs.Answers.{load_answer, minutes_and_seconds, load_time_answer, reserve_of, reserve_answer}

depth_passes_same : (p q : Panel) → SameUsed p q → depth_passes p ≡ depth_passes q
depth_passes_same p q h i depth = passes_same p q h depth i

pub time_passes_same : (p q : Panel) → SameUsed p q → TimePasses p ≡ TimePasses q
time_passes_same p q h = λ i n m. EveryTenthPasses (depth_passes_same p q h i) (tenths_same p q h n m i)

whole_part_same : (unit : ℕ) (p q : Panel) → SameUsed p q → whole_part (time_test p) unit ≡ whole_part (time_test q) unit
unfolding time_test
whole_part_same unit p q h = λ i. whole_part (λ (n m : ℕ). every_from (depth_passes_same p q h i) 0 (tenths_same p q h n m i)) unit

pub printed_load_same : (p q : Panel) → SameUsed p q → printed_load p ≡ printed_load q
unfolding load_minute
printed_load_same = least_same load_minute (whole_part_same 1)

pub printed_seconds_same : (p q : Panel) → SameUsed p q → printed_load_seconds p ≡ printed_load_seconds q
unfolding load_seconds
printed_seconds_same = least_same load_seconds (whole_part_same 60)

module _ (p q : Panel) (h : SameUsed p q) where
  pub load_unused : load_answer p ≡ load_answer q
  unfolding load_answer
  load_unused = λ i. unless_refused (refusal_unused p q h i) (printed_load_same p q h i)

  pub load_time_unused : load_time_answer p ≡ load_time_answer q
  unfolding load_time_answer
  load_time_unused = λ i. unless_refused (refusal_unused p q h i) (minutes_and_seconds (printed_seconds_same p q h i))

  pub reserve_unused : (wanted : ℕ) → reserve_answer p wanted ≡ reserve_answer q wanted
  unfolding reserve_answer
  reserve_unused wanted =
      λ i. unless_refused (minute_refusal_same p q h wanted i) (reserve_of wanted (printed_load_same p q h i))

-- R, and the same in seconds: the test says that every time up to a time passes, what it gives is the failure time's whole part, and a search
-- may stop at the last time that passes the test. The arguments hold for any test of depths, any depths that do not fall with time, and any
-- part of a minute.
use Rattle.std.proofs.lemmas.Bool.{false_from_ne_true}
use Prim.Native.Nat.{ℕ, suc, ◌*◌, ◌≤◌, ◌<◌}
use mathlib.Core.Path.{◌≡◌}
use mathlib.Core.Bool.{Bool, true, false}
use mathlib.Core.Logic.{◌↔◌}
use native.Mathlib.Omega.{arith}
use native.Mathlib.Nat.{le_refl, le_trans, mul-le-mul_right}
use Rattle.numbers.proofs.Booleans.{not_both}
use Rattle.numbers.proofs.LargestKept.{largest_last, largest_keeps, largest_greatest, largest_within}
use Rattle.panel.specs.declared.Panel.{Panel}
use Rattle.section.specs.Tests.{depth_passes}
use Rattle.refusals.specs.Refusals.{panel_refusal}
use Rattle.refusals.proofs.PanelTable.{accepted_passes}
use Rattle.charring.specs.Depths.{tenths_at}
use Rattle.charring.proofs.DepthBounds.{tenths_zero}
use Rattle.charring.proofs.DepthLaws.{tenths_later}
use Rattle.load.proofs.EveryDepth.{every_tenth}
use Rattle.load.specs.Failure.{EveryTenthPasses, TimePasses, PassesUpTo, IsWholePart, IsLoadMinute, IsLoadSeconds}
use Rattle.load.specs.LoadMinute.{every_from, time_test, whole_part, load_minute, load_seconds}

-- Times

-- a test of depths and a depth for each time give a test of times
abbrev pub PassesBy : (ℕ → Bool) → (ℕ → ℕ → ℕ) → ℕ → ℕ → Type 0
PassesBy passes tenths n q = EveryTenthPasses passes (tenths n q)

-- the test of a time says that every time up to it passes
pub test_says :
    (p : Panel) (n q : ℕ) → 0 < q → (time_test p n q ≡ true) ↔ PassesUpTo (TimePasses p) n q
unfolding time_test
test_says p n q h =
    let s = every_tenth (depth_passes p) (tenths_at p n q) in
    (λ e r k pos up d deep. s.0 e d (le_trans deep (tenths_later p r k n q pos h up)), λ all. s.1 (all n q h (le_refl (n * q))))

-- an earlier time passes the test too
pub test_earlier : (p : Panel) (unit k m : ℕ) → 0 < unit → k ≤ m → time_test p m unit ≡ true → time_test p k unit ≡ true
test_earlier p unit k m h le e =
    (test_says p k unit h).1 (λ r s pos up. (test_says p m unit h).0 e r s pos (le_trans up (mul-le-mul_right s le)))

-- the time 0 passes where depth 0 does
pub test_zero : (p : Panel) (unit : ℕ) → 0 < unit → depth_passes p 0 ≡ true → time_test p 0 unit ≡ true
unfolding time_test every_from
test_zero p unit h e = rw (tenths_zero p unit h) e

-- Whole parts

-- of any test that is kept at earlier times, the last time that passes is the whole part
pub whole_last :
    (test : ℕ → ℕ → Bool) (unit : ℕ) → ((k m : ℕ) → k ≤ m → test m unit ≡ true → test k unit ≡ true)
    → (v : ℕ) → v ≤ 360 * unit → test v unit ≡ true → (v < 360 * unit → test (suc v) unit ≡ false) → whole_part test unit ≡ v
unfolding whole_part
whole_last test unit down v h kept next =
    largest_last (λ (m : ℕ). test m unit) (360 * unit) v h kept
    (λ m l u. false_from_ne_true (test m unit) (λ e. not_both (test (suc v) unit) (down (suc v) m l e) (next (omega arith))))

pub whole_most : (test : ℕ → ℕ → Bool) (unit : ℕ) → whole_part test unit ≤ 360 * unit
unfolding whole_part
whole_most test unit = largest_within (λ (m : ℕ). test m unit) (360 * unit)

-- of every panel of which depth 0 passes
pub whole_part_is : (p : Panel) (unit : ℕ) → 0 < unit → depth_passes p 0 ≡ true → IsWholePart (TimePasses p) unit (whole_part (time_test p) unit)
unfolding whole_part
whole_part_is p unit h e =
    record {
      most = whole_most (time_test p) unit;
      not_above = (test_says p (whole_part (time_test p) unit) unit h).0
          (largest_keeps (λ (m : ℕ). time_test p m unit) (360 * unit) (test_zero p unit h e));
      greatest = λ k most all. largest_greatest (λ (m : ℕ). time_test p m unit) (360 * unit) k most ((test_says p k unit h).1 all);
    }

-- what a search finds: a time that passes, and the next does not
pub whole_found :
    (p : Panel) (unit : ℕ) → 0 < unit → (v : ℕ) → v ≤ 360 * unit → time_test p v unit ≡ true
    → (v < 360 * unit → time_test p (suc v) unit ≡ false) → whole_part (time_test p) unit ≡ v
whole_found p unit h = whole_last (time_test p) unit (λ k m. test_earlier p unit k m h)

-- R and RS of an accepted panel are what 01 and 02 call so
pub accepted_load_minute : (p : Panel) → panel_refusal p ≡ 0 → IsLoadMinute p (load_minute p)
unfolding load_minute
accepted_load_minute p e = whole_part_is p 1 (omega arith) (accepted_passes p e)

pub accepted_load_seconds : (p : Panel) → panel_refusal p ≡ 0 → IsLoadSeconds p (load_seconds p)
unfolding load_seconds
accepted_load_seconds p e = whole_part_is p 60 (omega arith) (accepted_passes p e)

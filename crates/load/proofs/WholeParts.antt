-- The failure time and its whole part: there is at most one of each, and what lies at or below the whole part is what is not above
-- the failure time.
use Prim.Native.Nat.{ℕ, suc, ◌*◌, ◌≤◌, ◌<◌}
use mathlib.Core.Path.{◌≡◌}
use mathlib.Core.Logic.{◌↔◌}
use native.Mathlib.Omega.{arith}
use native.Mathlib.Nat.{le_antisymm, le_trans, mul-le-mul_right, le_of_mul-le-mul_left, lt_of_not-le}
use Rattle.load.specs.Failure.{PassesUpTo, NotAboveFailure, AboveFailure, IsFailureTime, IsWholePart}
use Rattle.load.specs.LoadMinute.{minutes_in}

module _ (Passes : ℕ → ℕ → Type 0) (unit : ℕ) where
  -- an earlier time is not above the failure time either
  pub earlier_not_above : (k m : ℕ) → k ≤ m → NotAboveFailure Passes m unit → NotAboveFailure Passes k unit
  earlier_not_above k m h all r s pos up = all r s pos (le_trans up (mul-le-mul_right s h))

  pub whole_exactly : (m : ℕ) → IsWholePart Passes unit m → (k : ℕ) → k ≤ 360 * unit → (k ≤ m) ↔ PassesUpTo Passes k unit
  whole_exactly m h k most = (λ l. earlier_not_above k m l h.not_above, λ all. h.greatest k most all)

  pub whole_unique : (m k : ℕ) → IsWholePart Passes unit m → IsWholePart Passes unit k → m ≡ k
  whole_unique m k h l = le_antisymm (l.greatest m h.most h.not_above) (h.greatest k l.most l.not_above)

module _ (Passes : ℕ → ℕ → Type 0) where
  -- the whole minutes are those of the whole seconds
  pub minutes_of_seconds : (seconds : ℕ) → IsWholePart Passes 60 seconds → IsWholePart Passes 1 (minutes_in seconds)
  minutes_of_seconds seconds h =
      record {
        most = let most = h.most in omega arith;
        not_above = λ r s pos up. h.not_above r s pos (later (minutes_in seconds) r s (omega arith) up);
        greatest = λ k most all.
            let l = h.greatest (60 * k) (omega arith) (λ r s pos up. all r s pos (let z : r * 1 ≤ k * s = omega arith in z)) in
            omega arith;
      }
    where
      later : (m r s : ℕ) → 60 * m ≤ seconds → r * 1 ≤ m * s → r * 60 ≤ seconds * s
      later m r s h up = omega (arith, mul-le-mul_right s h)

  -- no time is both above the failure time and not
  pub not_both_sides : (n q : ℕ) → NotAboveFailure Passes n q → AboveFailure Passes n q → ⊥
  not_both_sides n q all a = a.fails (all a.over a.under a.whole (let l = a.earlier in omega arith))

  -- what is not above the failure time is no later
  pub up_to_failure : (n q r s : ℕ) → 0 < s → IsFailureTime Passes n q → NotAboveFailure Passes r s → r * q ≤ n * s
  up_to_failure n q r s pos h all =
      let l = lt_of_not-le (λ (later : suc (n * s) ≤ r * q). not_both_sides r s all (h.last r s pos later)) in
      omega arith

  -- there is at most one failure time
  pub failure_unique : (n q r s : ℕ) → IsFailureTime Passes n q → IsFailureTime Passes r s → n * s ≡ r * q
  failure_unique n q r s a b =
      le_antisymm (up_to_failure r s n q a.whole b a.not_above) (up_to_failure n q r s b.whole a b.not_above)

  -- "the failure time's whole minutes, at most 360": a number of parts is at or below the whole part exactly when it is no later than the
  -- failure time
  pub whole_of_failure :
      (n q unit m : ℕ) → 0 < unit → IsFailureTime Passes n q → IsWholePart Passes unit m
      → (k : ℕ) → k ≤ 360 * unit → (k ≤ m) ↔ (k * q ≤ n * unit)
  whole_of_failure n q unit m pos h w k most = (
    λ l. up_to_failure n q k unit pos h (earlier_not_above Passes unit k m l w.not_above),
    λ l. w.greatest k most (λ r s ps up. h.not_above r s ps (no_later r s l up)),
  )
    where
      no_later : (r s : ℕ) → k * q ≤ n * unit → r * unit ≤ k * s → r * q ≤ n * s
      no_later r s l up =
          let a = mul-le-mul_right q up in
          let b = mul-le-mul_right s l in
          le_of_mul-le-mul_left (let z : unit * (r * q) ≤ unit * (n * s) = omega arith in z) pos

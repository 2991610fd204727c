-- What is printed, R and RS, is the whole part of passing in every fire, and lies less than one part below the failure time. The argument about
-- two fires holds for any two notions of passing and any part of a minute.
use Prim.Native.Nat.{ℕ, zero, suc, ◌*◌, ◌≤◌, ◌<◌, min}
use mathlib.Core.Path.{◌≡◌, subst, ◌∙◌}
use native.Mathlib.Omega.{arith}
use native.Mathlib.Decide.{dec_le}
use Rattle.panel.specs.declared.Panel.{Panel}
use Rattle.panel.specs.Faces.{turned, fires_on, InEvery, least_of}
use Rattle.refusals.specs.Refusals.{panel_refusal}
use Rattle.refusals.proofs.PanelTable.{accepted_passes}
use Rattle.refusals.proofs.Turned.{refusal_turned}
use Rattle.load.specs.Failure.{TimePasses, EveryFirePasses, AboveFailure, IsWholePart}
use Rattle.load.specs.LoadMinute.{time_test, whole_part, load_minute, printed_load, load_seconds, printed_load_seconds, minutes_in}
use Rattle.load.proofs.LoadMinutes.{whole_most, whole_part_is, accepted_load_minute, accepted_load_seconds}
use Rattle.load.proofs.WholeParts.{earlier_not_above, whole_unique, minutes_of_seconds}
use Rattle.load.proofs.Closeness.{panel_next_above}

-- a whole part, and the next part is above the failure time
pub record CloseBelow (Passes : ℕ → ℕ → Type 0) (unit m : ℕ) : Type 0 where
  pub whole : IsWholePart Passes unit m
  pub next : m < 360 * unit → AboveFailure Passes (suc m) unit

-- Two notions of passing

module _ (First Second : ℕ → ℕ → Type 0) where
  abbrev Both : ℕ → ℕ → Type 0
  Both n q = First n q × Second n q

  -- what is above one failure time is above that of passing in both
  first_above : (n q : ℕ) → AboveFailure First n q → AboveFailure Both n q
  first_above n q a =
      record { over = a.over; under = a.under; whole = a.whole; earlier = a.earlier; fails = λ both. a.fails both.0 }

  second_above : (n q : ℕ) → AboveFailure Second n q → AboveFailure Both n q
  second_above n q a =
      record { over = a.over; under = a.under; whole = a.whole; earlier = a.earlier; fails = λ both. a.fails both.1 }

  -- the lesser of the two whole parts is the whole part of passing in both
  lesser_whole : (unit m k : ℕ) → IsWholePart First unit m → IsWholePart Second unit k → IsWholePart Both unit (min m k)
  lesser_whole unit m k f g =
      let most = f.most in
      let first = earlier_not_above First unit (min m k) m (omega arith) f.not_above in
      let second = earlier_not_above Second unit (min m k) k (omega arith) g.not_above in
      record {
        most = omega arith;
        not_above = λ r s pos up. (first r s pos up, second r s pos up);
        greatest = λ j l all.
            let a = f.greatest j l (λ r s pos up. (all r s pos up).0) in
            let b = g.greatest j l (λ r s pos up. (all r s pos up).1) in
            omega arith;
      }

  pub lesser_close : (unit m k : ℕ) → CloseBelow First unit m → CloseBelow Second unit k → CloseBelow Both unit (min m k)
  lesser_close unit m k f g = record { whole = lesser_whole unit m k f.whole g.whole; next = go (dec_le m k) }
    where
      go : Dec (m ≤ k) → min m k < 360 * unit → AboveFailure Both (suc (min m k)) unit
      go (yes h) l =
          let e : m ≡ min m k = omega arith in
          subst (λ (j : ℕ). AboveFailure Both (suc j) unit) e (first_above (suc m) unit (f.next (omega arith)))
      go (no h) l =
          let e : k ≡ min m k = omega arith in
          subst (λ (j : ℕ). AboveFailure Both (suc j) unit) e (second_above (suc k) unit (g.next (omega arith)))

-- The fires of a panel

module _ (unit : ℕ) (positive : 0 < unit) where
  -- the whole part of the failure time in a fire, by its definition
  abbrev part : Panel → ℕ
  part fire = whole_part (time_test fire) unit

  part_close : (p : Panel) → panel_refusal p ≡ 0 → CloseBelow (TimePasses p) unit (part p)
  part_close p e =
      let whole = whole_part_is p unit positive (accepted_passes p e) in
      record { whole = whole; next = panel_next_above p unit (part p) positive whole }

  close_on :
      (face : ℕ) (p : Panel) → panel_refusal p ≡ 0
      → CloseBelow (λ n q. InEvery (λ fire. TimePasses fire n q) (fires_on face p)) unit (least_of part (fires_on face p))
  close_on zero p e = part_close p e
  close_on (suc zero) p e = part_close (turned p) (refusal_turned p ∙ e)
  close_on (suc (suc face)) p e =
      lesser_close (TimePasses p) (TimePasses (turned p)) unit (part p) (part (turned p)) (part_close p e)
      (part_close (turned p) (refusal_turned p ∙ e))

  least_most : (face : ℕ) (p : Panel) → least_of part (fires_on face p) ≤ 360 * unit
  least_most zero p = whole_most (time_test p) unit
  least_most (suc zero) p = whole_most (time_test (turned p)) unit
  least_most (suc (suc face)) p = omega (arith, whole_most (time_test p) unit)

-- the load minute of an accepted panel, and the printed one
pub load_close : (p : Panel) → panel_refusal p ≡ 0 → CloseBelow (TimePasses p) 1 (load_minute p)
unfolding load_minute
load_close = part_close 1 (omega arith)

pub printed_close : (p : Panel) → panel_refusal p ≡ 0 → CloseBelow (EveryFirePasses p) 1 (printed_load p)
unfolding load_minute
printed_close p e = close_on 1 (omega arith) p.face p e

pub printed_most : (p : Panel) → printed_load p ≤ 360
unfolding load_minute
printed_most p = least_most 1 (omega arith) p.face p

-- the same in seconds
pub seconds_close : (p : Panel) → panel_refusal p ≡ 0 → CloseBelow (TimePasses p) 60 (load_seconds p)
unfolding load_seconds
seconds_close = part_close 60 (omega arith)

pub printed_seconds_close : (p : Panel) → panel_refusal p ≡ 0 → CloseBelow (EveryFirePasses p) 60 (printed_load_seconds p)
unfolding load_seconds
printed_seconds_close p e = close_on 60 (omega arith) p.face p e

pub printed_seconds_most : (p : Panel) → printed_load_seconds p ≤ 21600
unfolding load_seconds
printed_seconds_most p = least_most 60 (omega arith) p.face p

-- in one fire its minutes are the load minute
pub fire_minutes : (p : Panel) → panel_refusal p ≡ 0 → minutes_in (load_seconds p) ≡ load_minute p
fire_minutes p e =
    whole_unique (TimePasses p) 1 (minutes_in (load_seconds p)) (load_minute p)
    (minutes_of_seconds (TimePasses p) (load_seconds p) (accepted_load_seconds p e)) (accepted_load_minute p e)

-- "Its minutes equal the printed R"
pub minutes_printed : (p : Panel) → panel_refusal p ≡ 0 → minutes_in (printed_load_seconds p) ≡ printed_load p
minutes_printed p e =
    whole_unique (EveryFirePasses p) 1 (minutes_in (printed_load_seconds p)) (printed_load p)
    (minutes_of_seconds (EveryFirePasses p) (printed_load_seconds p) (printed_seconds_close p e).whole) (printed_close p e).whole

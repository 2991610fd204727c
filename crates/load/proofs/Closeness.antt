-- The whole part of the failure time lies less than one part below it: unless it is 360 minutes, some time strictly before the following part
-- fails. The argument holds for any test of depths, for any depth at each time that does not fall and is reached a little earlier
-- too, and for any part of a minute.
use Prim.Native.Nat.{ℕ, suc, ◌+◌, ◌*◌, ◌≤◌, ◌<◌}
use mathlib.Core.Path.{◌≡◌, refl}
use mathlib.Core.Bool.{Bool, true, false}
use mathlib.Core.Logic.{◌↔◌}
use native.Mathlib.Omega.{arith}
use native.Mathlib.Nat.{le_trans, mul-pos}
use Rattle.numbers.proofs.Booleans.{not_both}
use Rattle.panel.specs.declared.Panel.{Panel}
use Rattle.section.specs.Tests.{depth_passes}
use Rattle.charring.specs.Depths.{tenths_at}
use Rattle.charring.proofs.DepthLaws.{effective_speed, tenths_later}
use Rattle.charring.proofs.JustBefore.{just_before}
use Rattle.load.specs.Failure.{EveryTenthPasses, TimePasses, AboveFailure, IsWholePart}
use Rattle.load.specs.LoadMinute.{every_from}
use Rattle.load.proofs.EveryDepth.{every_tenth}
use Rattle.load.proofs.LoadMinutes.{PassesBy}

module _ (passes : ℕ → Bool) (tenths : ℕ → ℕ → ℕ)
    (later : (n q r s : ℕ) → 0 < q → 0 < s → n * s ≤ r * q → tenths n q ≤ tenths r s)
    (speed : ℕ) (before : (n q : ℕ) → 0 < q → tenths (suc n) q ≤ tenths (suc speed * n + speed) (suc speed * q)) where
  pub next_above : (unit m : ℕ) → 0 < unit → IsWholePart (PassesBy passes tenths) unit m → m < 360 * unit → AboveFailure
      (PassesBy passes tenths) (suc m) unit
  next_above unit m h w l = go (every_from passes 0 (tenths (suc m) unit)) refl
    where
      says : (every_from passes 0 (tenths (suc m) unit) ≡ true) ↔ EveryTenthPasses passes (tenths (suc m) unit)
      says = every_tenth passes (tenths (suc m) unit)

      go : (b : Bool) → every_from passes 0 (tenths (suc m) unit) ≡ b → AboveFailure (PassesBy passes tenths) (suc m) unit
      go true e =
          let k = w.greatest (suc m) l (λ r s pos up d deep. says.0 e d (le_trans deep (later r s (suc m) unit pos h up))) in
          absurd (let z : ⊥ = omega arith in z)
      go false e =
          record {
            over = suc speed * m + speed;
            under = suc speed * unit;
            whole = mul-pos (let z : 0 < suc speed = omega arith in z) h;
            earlier = omega arith;
            fails = λ all. not_both (every_from passes 0 (tenths (suc m) unit)) (says.1 (λ d u. all d (le_trans u (before m unit h)))) e;
          }

-- of every panel
pub panel_next_above :
    (p : Panel) (unit m : ℕ) → 0 < unit → IsWholePart (TimePasses p) unit m → m < 360 * unit → AboveFailure (TimePasses p) (suc m) unit
panel_next_above p =
    next_above (depth_passes p) (tenths_at p) (λ n q r s. tenths_later p n q r s) (effective_speed p) (just_before p)

-- FINER PARTS OF A MINUTE LOSE NOTHING of an accepted panel: neither of the sum of its layer times nor a minute of EI. Assumes nothing.
use Prim.Native.Nat.{ℕ, ◌*◌, ◌/◌, ◌<◌, ◌≤◌}
use mathlib.Core.Path.{◌≡◌}
use native.Mathlib.Omega.{arith}
use native.Mathlib.Nat.{mul-pos, mul-le-mul_left, le-div_iff_mul-le, div-mul-le_self}
use Rattle.panel.specs.declared.Panel.{Panel}
use Rattle.panel.specs.Faces.{fires}
use Rattle.panel.proofs.Turning.{least_rises}
use Rattle.refusals.specs.Refusals.{panel_refusal}
use Rattle.refusals.proofs.Turned.{in_every_fire}
use Rattle.limits.proofs.Accepted.{accepted_keeps}
use Rattle.layers.specs.Layers.{layers_of, ei_sum_in, ei_minute_in}
use Rattle.finer_times.specs.Finer.{LosesNothing}
use Rattle.layers.proofs.LayersKeep.{layers_keep}
use Rattle.finer_times.proofs.Sums.{sum_no_less}

-- whole minutes of a sum that is no less
minutes_rise : (parts c s s' : ℕ) → 0 < parts → 0 < c → c * s ≤ s' → s / parts ≤ s' / (c * parts)
minutes_rise parts c s s' some positive h = (le-div_iff_mul-le (mul-pos positive some)).1 (numbers (s / parts) (div-mul-le_self s parts))
  where
    numbers : (m : ℕ) → m * parts ≤ s → m * (c * parts) ≤ s'
    numbers m k = omega (arith, h, mul-le-mul_left c k)

module _ (parts c : ℕ) (some : 0 < parts) (positive : 0 < c) where
  fire_sum : (p : Panel) → panel_refusal p ≡ 0 → c * ei_sum_in parts p ≤ ei_sum_in (c * parts) p
  unfolding ei_sum_in
  fire_sum p e = sum_no_less parts c some positive (layers_of p) (layers_keep p (accepted_keeps p e)) 0 0 (omega arith)

  fire_minute : (p : Panel) → panel_refusal p ≡ 0 → ei_minute_in parts p ≤ ei_minute_in (c * parts) p
  fire_minute p e = omega (arith, minutes_rise parts c (ei_sum_in parts p) (ei_sum_in (c * parts) p) some positive (fire_sum p e))

pub loses_nothing : (parts c : ℕ) → 0 < parts → 0 < c → (p : Panel) → panel_refusal p ≡ 0 → LosesNothing parts c p
loses_nothing parts c some positive p e =
    record {
      sum = in_every_fire (λ fire. c * ei_sum_in parts fire ≤ ei_sum_in (c * parts) fire) (fire_sum parts c some positive) p e;
      ei = least_rises (ei_minute_in parts) (ei_minute_in (c * parts)) (fires p)
          (in_every_fire (λ fire. ei_minute_in parts fire ≤ ei_minute_in (c * parts) fire) (fire_minute parts c some positive) p e);
    }

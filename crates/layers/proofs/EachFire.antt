-- EI over the fires of a panel: the lesser minute is that of the lesser sum.
use Prim.Native.Nat.{ℕ, zero, suc, ◌/◌, min}
use mathlib.Core.Path.{◌≡◌, refl}
use native.Mathlib.Omega.{arith}
use Rattle.panel.specs.declared.Panel.{Panel}
use Rattle.panel.specs.Faces.{turned, fires_on, fires, least_of}
use Rattle.refusals.specs.Causes.{last_minute}
use Rattle.basic_times.specs.Rules.{parts_per_minute}
use Rattle.layers.specs.Layers.{ei_sum, ei_minute, printed_ei, least_sum}

lesser_minute : (a b : ℕ) → min (min a b / parts_per_minute) last_minute ≡ min (min (a / parts_per_minute) last_minute) (min (b / parts_per_minute) last_minute)
lesser_minute a b = omega arith

least_minute : (face : ℕ) (p : Panel) → min (least_of ei_sum (fires_on face p) / parts_per_minute) last_minute ≡ least_of ei_minute (fires_on face p)
least_minute zero p = refl
least_minute (suc zero) p = refl
least_minute (suc (suc face)) p = lesser_minute (ei_sum p) (ei_sum (turned p))

least_up_to : (enough face : ℕ) (p : Panel) → least_of (λ (q : Panel). min (ei_sum q) enough) (fires_on face p) ≡ min (least_of ei_sum (fires_on face p)) enough
least_up_to enough zero p = refl
least_up_to enough (suc zero) p = refl
least_up_to enough (suc (suc face)) p = omega arith

-- as far as enough
pub least_sum_up_to : (enough : ℕ) (p : Panel) → least_of (λ (q : Panel). min (ei_sum q) enough) (fires p) ≡ min (least_sum p) enough
least_sum_up_to enough p = least_up_to enough p.face p

pub printed_minute_lem : (p : Panel) → min (least_sum p / parts_per_minute) last_minute ≡ printed_ei p
printed_minute_lem p = least_minute p.face p

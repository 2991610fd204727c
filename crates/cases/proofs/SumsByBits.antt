-- Basic times, layer times and their sum, found bit by bit, which computes where counting down does not; of a panel that keeps its limits they
-- are those of the definitions.
use Prim.Native.Nat.{ℕ, zero, suc, ◌+◌, ◌-◌, ◌*◌, ◌/◌, ◌^◌, ◌≤◌, ◌<◌, min}
use mathlib.Core.Path.{◌≡◌, refl, ap, ap₂, ◌∙◌}
use mathlib.Core.Bool.{Bool, true, false}
use mathlib.Core.List.{List, [], ◌∷◌}
use native.Mathlib.Omega.{arith}
use borrow.Author.Tests.{leb-false}
use lib.Dec.{leb}
use Rattle.numbers.specs.ByBits.{by_bits}
use Rattle.numbers.proofs.ByBits.{bits_largest}
use Rattle.numbers.proofs.LargestKept.{largest_unique}
use Rattle.panel.specs.declared.Panel.{Panel}
use Rattle.panel.specs.declared.Material.{Material}
use Rattle.panel.specs.declared.Material.TheVariants.{Wood}
use Rattle.panel.specs.Boards.{material_of, whole_joint}
use Rattle.panel.specs.Faces.{turned, fires_on, fires, least_of}
use Rattle.refusals.specs.Causes.{last_minute}
use Rattle.refusals.specs.Refusals.{panel_refusal, refusal_before_section}
use Rattle.refusals.proofs.Turned.{to12_turned}
use Rattle.limits.specs.Keeps.{Keeps}
use Rattle.limits.proofs.Accepted.{to12_keeps, accepted_keeps}
use Rattle.basic_times.specs.declared.Role.{Role}
use Rattle.basic_times.specs.declared.Role.TheVariants.{Protection, Insulation}
use Rattle.basic_times.specs.Rules.{parts_per_minute, longest_time, keeps, rule_of}
use Rattle.basic_times.specs.Tables.{bits}
use Rattle.basic_times.proofs.Entries.{basic_by_bits}
use Rattle.basic_times.proofs.Rule.{time_kept}
use Rattle.layers.specs.Layers.{Layer, board_layer, lamella_layer, layers_of, time_of, joint_of, late_keeps, positioned, with_layer_in, with_layer, sum_after_in, ei_sum_in, ei_sum, ei_minute, printed_ei}
use Rattle.layers.proofs.LateTimes.{late_zero, late_down, late_largest, late_within}
use Rattle.layers.proofs.LayersKeep.{LayerKeeps, LayersKeep, layers_keep}

abbrev pub time_by_bits : Role → Material → ℕ → ℕ
time_by_bits role m h = by_bits (keeps parts_per_minute (rule_of role m) h) bits 0

abbrev time_of_layer : Role → Layer → ℕ
time_of_layer role (board_layer b) = time_by_bits role (material_of b.kind) b.thickness
time_of_layer role (lamella_layer l) = time_by_bits role Wood l.thickness

abbrev position_by_bits : ℕ → ℕ → ℕ
position_by_bits s t = elim (leb (2 * s) t) [ true ↦ (5 * t - 3 * s) / 5 | false ↦ by_bits (late_keeps s t) bits 0 ]

abbrev with_layer_by_bits : Role → ℕ → Layer → ℕ
with_layer_by_bits role s x = s + position_by_bits s (time_of_layer role x) * joint_of x / whole_joint

unfoldable pub sum_after_by_bits : ℕ → List Layer → ℕ
sum_after_by_bits s [] = s
sum_after_by_bits s (x ∷ []) = with_layer_by_bits Insulation s x
sum_after_by_bits s (x ∷ y ∷ xs) = sum_after_by_bits (with_layer_by_bits Protection s x) (y ∷ xs)

abbrev pub sum_by_bits : Panel → ℕ
sum_by_bits p = sum_after_by_bits 0 (layers_of p)

abbrev pub ei_by_bits : Panel → ℕ
ei_by_bits p = least_of (λ (fire : Panel). min (sum_by_bits fire / parts_per_minute) last_minute) (fires p)

-- They are those of the definitions

time_found : (role : Role) (x : Layer) → LayerKeeps x → time_of_layer role x ≡ time_of parts_per_minute role x
unfolding time_of
time_found role (board_layer b) h = basic_by_bits role (material_of b.kind) b.thickness h.thickness.most
time_found role (lamella_layer l) h = basic_by_bits role Wood l.thickness h.thickness.most

time_most : (role : Role) (x : Layer) → time_of parts_per_minute role x ≤ longest_time
unfolding time_of
time_most role (board_layer b) = (time_kept role (material_of b.kind) b.thickness refl).1
time_most role (lamella_layer l) = (time_kept role Wood l.thickness refl).1

position_found : (s t : ℕ) → t ≤ longest_time → position_by_bits s t ≡ positioned s t
unfolding positioned
position_found s t h = go (leb (2 * s) t) refl
  where
    go :
        (b : Bool) → leb (2 * s) t ≡ b
        → (elim b as (λ _. ℕ) [ true ↦ (5 * t - 3 * s) / 5 | false ↦ by_bits (late_keeps s t) bits 0 ]) ≡ positioned s t
    go true e = rw (positioned, e) refl
    go false e =
        let late : t < 2 * s = leb-false (2 * s) t e in
        let l = late_largest s t late in
        let far : late_keeps s t (2 ^ bits) ≡ false = l.beyond (2 ^ bits) (omega (arith, late_within s t late)) in
        largest_unique (late_keeps s t) (by_bits (late_keeps s t) bits 0) (positioned s t)
        (bits_largest (late_keeps s t) (late_down s t) bits 0 (late_zero s t) far) l

layer_found : (role : Role) (s : ℕ) (x : Layer) → LayerKeeps x → with_layer_by_bits role s x ≡ with_layer role s x
unfolding with_layer_in
layer_found role s x h =
    ap (λ (t : ℕ). s + position_by_bits s t * joint_of x / whole_joint) (time_found role x h)
    ∙ ap (λ (n : ℕ). s + n * joint_of x / whole_joint) (position_found s (time_of parts_per_minute role x) (time_most role x))

sum_after_found : (s : ℕ) (xs : List Layer) → LayersKeep xs → sum_after_by_bits s xs ≡ sum_after_in parts_per_minute s xs
unfolding sum_after_by_bits sum_after_in
sum_after_found s [] h = refl
sum_after_found s (x ∷ []) h = layer_found Insulation s x h.0
sum_after_found s (x ∷ y ∷ xs) h =
    ap (λ (k : ℕ). sum_after_by_bits k (y ∷ xs)) (layer_found Protection s x h.0)
    ∙ sum_after_found (with_layer Protection s x) (y ∷ xs) h.1

sum_found : (p : Panel) → Keeps p → sum_by_bits p ≡ ei_sum p
unfolding ei_sum_in
sum_found p k = sum_after_found 0 (layers_of p) (layers_keep p k)

pub sum_by_bits_lem : (p : Panel) → panel_refusal p ≡ 0 → sum_by_bits p ≡ ei_sum p
sum_by_bits_lem p e = sum_found p (accepted_keeps p e)

pub ei_by_bits_lem : (p : Panel) → refusal_before_section p ≡ 0 → ei_by_bits p ≡ printed_ei p
ei_by_bits_lem p e = each p.face
  where
    minute : Panel → ℕ
    minute fire = min (sum_by_bits fire / parts_per_minute) last_minute

    same : (fire : Panel) → refusal_before_section fire ≡ 0 → minute fire ≡ ei_minute fire
    same fire f = ap (λ (n : ℕ). min (n / parts_per_minute) last_minute) (sum_found fire (to12_keeps fire f))

    each : (face : ℕ) → least_of minute (fires_on face p) ≡ least_of ei_minute (fires_on face p)
    each zero = same p e
    each (suc zero) = same (turned p) (to12_turned p ∙ e)
    each (suc (suc face)) = ap₂ min (same p e) (same (turned p) (to12_turned p ∙ e))

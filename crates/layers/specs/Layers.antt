-- Document 01, "Layer times", and document 02, 8/14: what each layer gives, and EI. Times are in thousandths of a minute
-- (`parts_per_minute`). As in basic_times the parts of a minute are a parameter of what goes by them.
use Rattle.std.specs.Prelude.{ℕ, ◌+◌, ◌-◌, ◌*◌, ◌/◌, min, List, [], ◌∷◌, ◌++◌, map, Bool, true, false, leb}
use Rattle.numbers.specs.Largest.{largest}
use Rattle.panel.specs.declared.Board.{Board}
use Rattle.panel.specs.declared.Panel.{Panel}
use Rattle.panel.specs.declared.Material.TheVariants.{Wood}
use Rattle.panel.specs.Boards.{boards_of, material_of, whole_joint}
use Rattle.panel.specs.Lamellae.{Lamella, lamellae}
use Rattle.panel.specs.Faces.{fires, least_of}
use Rattle.refusals.specs.Causes.{last_minute}
use Rattle.basic_times.specs.declared.Role.{Role}
use Rattle.basic_times.specs.declared.Role.TheVariants.{Protection, Insulation}
use Rattle.basic_times.specs.Rules.{parts_per_minute, basic_time_in}

-- "From the exposed side": a board or a lamella
pub data Layer : Type 0 where
  board_layer : Board → Layer
  lamella_layer : Lamella → Layer

-- the layers of a panel in the fire on its first face, from the exposed side: "boards on the far face are no layer"
abbrev pub layers_of : Panel → List Layer
layers_of p = map board_layer (boards_of p.cladding) ++ map lamella_layer (lamellae p)

-- the basic time of a layer, in so many parts to the minute: a board goes by its type, a lamella is solid wood
unfoldable pub time_of : ℕ → Role → Layer → ℕ
time_of parts role (board_layer b) = basic_time_in parts role (material_of b.kind) b.thickness
time_of parts role (lamella_layer l) = basic_time_in parts role Wood l.thickness

-- "its joint coefficient (lamella 100)", hundredths
unfoldable pub joint_of : Layer → ℕ
joint_of (board_layer b) = b.joint
joint_of (lamella_layer l) = whole_joint

-- "4·n²·S ≤ t³"
abbrev pub late_keeps : ℕ → ℕ → ℕ → Bool
late_keeps s t n = leb (4 * n * n * s) (t * t * t)

-- "with S the sum of the layer times before and t a basic time: if 2S ≤ t the layer gives t − 0.6·S, else the largest n with
-- 4·n²·S ≤ t³", rounded down; no such n is above t
unfoldable pub positioned : ℕ → ℕ → ℕ
positioned s t = elim (leb (2 * s) t) [ true ↦ (5 * t - 3 * s) / 5 | false ↦ largest (late_keeps s t) t ]

-- "then by its joint coefficient .., each step rounded down"
abbrev pub layer_time : ℕ → ℕ → ℕ → ℕ
layer_time s t joint = positioned s t * joint / whole_joint

-- the sum with one more layer, by protection or by insulation time
unfoldable pub with_layer_in : ℕ → Role → ℕ → Layer → ℕ
with_layer_in parts role s x = s + layer_time s (time_of parts role x) (joint_of x)

-- "All layers but the last use protection time, the last insulation time": the sum of a run of layers after a sum s
unfoldable pub sum_after_in : ℕ → ℕ → List Layer → ℕ
sum_after_in parts s [] = s
sum_after_in parts s (x ∷ []) = with_layer_in parts Insulation s x
sum_after_in parts s (x ∷ y ∷ xs) = sum_after_in parts (with_layer_in parts Protection s x) (y ∷ xs)

unfoldable pub ei_sum_in : ℕ → Panel → ℕ
ei_sum_in parts p = sum_after_in parts 0 (layers_of p)

-- "EI is the sum, in minutes rounded down, at most 360."
abbrev pub ei_minute_in : ℕ → Panel → ℕ
ei_minute_in parts p = min (ei_sum_in parts p / parts) last_minute

-- In thousandths of a minute: "The rule of each table, the layer step and the sum all change with it"

abbrev pub with_layer : Role → ℕ → Layer → ℕ
with_layer = with_layer_in parts_per_minute

-- a run of layers, all by protection, after a sum s
unfoldable pub protected_after : ℕ → List Layer → ℕ
protected_after s [] = s
protected_after s (x ∷ xs) = protected_after (with_layer Protection s x) xs

abbrev pub ei_sum : Panel → ℕ
ei_sum = ei_sum_in parts_per_minute

-- "EI is the whole minutes of the new sum"
abbrev pub ei_minute : Panel → ℕ
ei_minute = ei_minute_in parts_per_minute

-- "For 2 the printed minutes are the lesser of the two fires": the EI that is answered and printed
abbrev pub printed_ei : Panel → ℕ
printed_ei p = least_of ei_minute (fires p)

-- and the sum beside it, which the papers leave open for two fires
abbrev pub least_sum : Panel → ℕ
least_sum p = least_of ei_sum (fires p)

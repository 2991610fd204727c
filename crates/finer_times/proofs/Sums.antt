-- Sums of layer times in finer parts of a minute, after a sum that is no less: they are no less, layer by layer.
use Prim.Native.Nat.{ℕ, ◌*◌, ◌<◌, ◌≤◌}
use mathlib.Core.List.{List, [], ◌∷◌}
use native.Mathlib.Omega.{arith}
use Rattle.panel.specs.declared.Material.TheVariants.{Wood}
use Rattle.panel.specs.Boards.{material_of, whole_joint}
use Rattle.basic_times.specs.declared.Role.{Role}
use Rattle.basic_times.specs.declared.Role.TheVariants.{Protection, Insulation}
use Rattle.layers.specs.Layers.{Layer, board_layer, lamella_layer, time_of, joint_of, with_layer_in, sum_after_in}
use Rattle.layers.proofs.LayersKeep.{LayerKeeps, LayersKeep}
use Rattle.finer_times.proofs.RoundedDown.{RoundedDown}
use Rattle.finer_times.proofs.Steps.{layer_step}
use Rattle.finer_times.proofs.BasicTimes.{basic_times_rounded}

joint_most : (x : Layer) → LayerKeeps x → joint_of x ≤ whole_joint
unfolding joint_of
joint_most (board_layer b) k = k.joint_most
joint_most (lamella_layer l) k = omega arith

module _ (parts c : ℕ) (some : 0 < parts) (positive : 0 < c) where
  time_rounded : (role : Role) (x : Layer) → LayerKeeps x → RoundedDown c (time_of parts role x) (time_of (c * parts) role x)
  unfolding time_of
  time_rounded role (board_layer b) k = basic_times_rounded parts c some positive role (material_of b.kind) b.thickness k.thickness.most
  time_rounded role (lamella_layer l) k = basic_times_rounded parts c some positive role Wood l.thickness k.thickness.most

  with_layer_no_less :
      (role : Role) (x : Layer) → LayerKeeps x → (s s' : ℕ) → c * s ≤ s'
      → c * with_layer_in parts role s x ≤ with_layer_in (c * parts) role s' x
  unfolding with_layer_in
  with_layer_no_less role x k s s' h =
      layer_step c s (time_of parts role x) s' (time_of (c * parts) role x) (joint_of x) h (time_rounded role x k) (joint_most x k)

  pub sum_no_less :
      (xs : List Layer) → LayersKeep xs → (s s' : ℕ) → c * s ≤ s'
      → c * sum_after_in parts s xs ≤ sum_after_in (c * parts) s' xs
  unfolding sum_after_in
  sum_no_less [] ks s s' h = h
  sum_no_less (x ∷ []) ks s s' h = with_layer_no_less Insulation x ks.0 s s' h
  sum_no_less (x ∷ y ∷ xs) ks s s' h =
      sum_no_less (y ∷ xs) ks.1 (with_layer_in parts Protection s x) (with_layer_in (c * parts) Protection s' x)
      (with_layer_no_less Protection x ks.0 s s' h)

-- `layers::sums::protected` meets its contract: after i rounds the sum is that of the first i lamellae. Assumes nothing.
use Prim.Native.Nat.{ℕ, ◌+◌, ◌*◌, ◌≤◌}
use Rattle.basic_times.specs.Rules.{longest_time}
use Rattle.layers.specs.Kept.{SameUpTo}
use Rattle.layers.specs.Layers.{lamella_layer, protected_after}
use Rattle.panel.specs.Lamellae.{lamellae_of}
use mathlib.Core.List.{List, map}
use Rattle.layers.proofs.sums.protected.Given as goal

abbrev pub invariant-loop-at : goal.invariant-loop-at
invariant-loop-at l = record {
  most : l.sum ≤ 2 * longest_time + longest_time * l.at;
  so_far : (gs : List ℕ) → SameUpTo l.fn.enough l.sum (protected_after l.fn.s (map lamella_layer (lamellae_of gs l.thicknesses l.at)));
}

-- `layers::sums::protected` meets its contract: after i rounds the sum is that of the first i lamellae, or both are enough. Assumes nothing.
use Prim.Native.Nat.{ℕ, min}
use Rattle.layers.proofs.Runs.{protected_more, more_up_to, enough_up_to}
use Rattle.basic_times.specs.declared.Role.TheVariants.{Protection}
use Rattle.layers.specs.Layers.{lamella_layer, protected_after}
use Rattle.panel.specs.Lamellae.{lamella, lamellae_of}
use lib.ListN.{get_or}
use mathlib.Core.List.{map}
use mathlib.Core.Path.{refl, sym, ap, ◌∙◌}
use native.Mathlib.Omega.{arith}
use Rattle.layers.proofs.sums.protected.Goals as goal
use Rattle.layers.proofs.sums.protected.Goals.{then-sum-enough, else-sum-enough}

pub loop-at-init : goal.loop-at-init
unfolding lamellae_of protected_after
loop-at-init c = record { most = omega arith; so_far = λ gs. refl }

pub loop-at-preserved : goal.loop-at-preserved
loop-at-preserved c =
    let s = c.args.s in
    let ts = c.args.thicknesses.now in
    let i = c.loop-at.at in
    let enough = c.args.enough in
    elim c.if-sum-enough.branch [
      | then-sum-enough w ↦ record {
        most = omega (arith, w.sum-is, w.with_lamella_at-sum.ensures.most, c.loop-at.invariant.most);
        so_far = λ gs.
            let x = lamella_layer (lamella (get_or gs i 0) (get_or ts i 0)) in
            ap (λ (k : ℕ). min k enough) (w.sum-is ∙ w.with_lamella_at-sum.ensures.sum (get_or gs i 0))
            ∙ more_up_to Protection enough c.loop-at.sum (protected_after s (map lamella_layer (lamellae_of gs ts i))) x (c.loop-at.invariant.so_far gs)
            ∙ sym (ap (λ (k : ℕ). min k enough) (protected_more s gs ts i));
      }
      | else-sum-enough w ↦ record {
        most = omega (arith, w.sum-is, c.loop-at.invariant.most);
        so_far = λ gs.
            let x = lamella_layer (lamella (get_or gs i 0) (get_or ts i 0)) in
            ap (λ (k : ℕ). min k enough) w.sum-is
            ∙ enough_up_to Protection enough c.loop-at.sum (protected_after s (map lamella_layer (lamellae_of gs ts i))) x (omega (arith, w.if-sum-enough)) (c.loop-at.invariant.so_far gs)
            ∙ sym (ap (λ (k : ℕ). min k enough) (protected_more s gs ts i));
      }
    ]

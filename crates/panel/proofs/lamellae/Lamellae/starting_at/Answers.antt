-- `panel::lamellae::Lamellae::starting_at` meets its contract: the rest of each slice, lent, is the rest of the lamellae. Assumes nothing.
use Prim.Native.Nat.{ℕ}
use mathlib.Core.List.{List}
use mathlib.Core.Path.{ap₂, ◌∙◌}
use native.Mathlib.Nat.{le_refl}
use lib.ListN.{length, length-drop}
use Rattle.panel.proofs.Used.{lamellae_dropped}
use Rattle.panel.specs.Lamellae.{lamellae_of}
use Rattle.std.proofs.lemmas.Slice.{between_to_end}
use Rattle.panel.proofs.lamellae.Lamellae.starting_at.Goals as goal

pub returns : goal.returns
returns c =
    let gs = c.args.self.directions.now in
    let ts = c.args.self.thicknesses.now in
    let place = c.args.place in
    ap₂ (λ (xs ys : List ℕ). lamellae_of xs ys (length xs)) (between_to_end gs place (length gs) (le_refl (length gs)))
    (between_to_end ts place (length ts) (le_refl (length ts)))
    ∙ lamellae_dropped gs ts place (length gs) _ (length-drop place gs)

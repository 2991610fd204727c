-- `builds::same::same_lamellae` meets its contract: lamellae are equal where their directions are, and their thicknesses.
-- Assumes nothing.
use Prim.Native.Nat.{ℕ}
use mathlib.Core.Path.{◌≡◌, sym, ap, ap₂, ◌∙◌}
use mathlib.Core.List.{List, map}
use lib.ListN.{length}
use Rattle.std.proofs.lemmas.Bool.Decides.{same_from_decides, Decides-and, Decides-eqb, Decides-like}
use Rattle.std.proofs.lemmas.Slice.Eq.{slice_eq-Decides}
use Rattle.builds.proofs.Builds.{same_decides}
use Rattle.panel.proofs.Lent.{directions_in, thicknesses_in}
use Rattle.builds.specs.Builds.{same_lamellae}
use Rattle.panel.specs.Lamellae.{Lamella, lamellae_of}
use Rattle.panel.specs.Lent.{lamellae_in}
use Rattle.builds.proofs.same.same_lamellae.Goals as goal

pub returns : goal.returns
returns c =
    let a = c.args.a in
    let b = c.args.b in
    same_from_decides _ (same_lamellae (lamellae_in a) (lamellae_in b))
    (Decides-and c.eq.result c.eq-2.result (slice_eq-Decides Decides-eqb a.directions.now b.directions.now c.eq.result c.eq.ensures)
    (slice_eq-Decides Decides-eqb a.thicknesses.now b.thicknesses.now c.eq-2.result c.eq-2.ensures))
    (Decides-like (same_lamellae (lamellae_in a) (lamellae_in b))
    (λ (e : lamellae_in a ≡ lamellae_in b). (
      sym (directions_in a) ∙ ap (map (λ (l : Lamella). l.direction)) e ∙ directions_in b,
      sym (thicknesses_in a) ∙ ap (map (λ (l : Lamella). l.thickness)) e ∙ thicknesses_in b,
    ))
    (λ (e : (a.directions.now ≡ b.directions.now) × (a.thicknesses.now ≡ b.thicknesses.now)).
    ap₂ (λ (gs ts : List ℕ). lamellae_of gs ts (length gs)) e.0 e.1) (same_decides (lamellae_in a) (lamellae_in b)))

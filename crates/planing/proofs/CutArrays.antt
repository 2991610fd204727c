-- A cut as the code makes it: the lamella of index `at`, which is at place at + 1, is thinner in the panel's array.
use Prim.Native.Nat.{ℕ, suc, ◌+◌, ◌-◌, ◌<◌}
use mathlib.Core.Path.{◌≡◌, refl, sym, ap, ap₂, ◌∙◌}
use mathlib.Core.List.{List}
use mathlib.Core.Bool.{Bool, true, false, ◌&&◌}
use native.Mathlib.Omega.{arith}
use borrow.Author.Tests.{lt-ltb, eqb-true, eqb-false}
use lib.Dec.{eqb, leb}
use lib.ListN.{length, get_or, set}
use lib.Seq.{get_or-set_same, get_or-set_other}
use Rattle.numbers.specs.Firsts.{firsts}
use Rattle.numbers.proofs.FirstValues.{firsts_get_or}
use Rattle.panel.specs.declared.Panel.{Panel}
use Rattle.panel.specs.Lamellae.{Lamella, lamella, lamellae_of, lamellae}
use Rattle.panel.proofs.Used.{length_lamellae_of, get_or_lamellae_of}
use Rattle.planing.specs.Cuts.{thickness_at, thinned, least_kept, allowed}
use Rattle.planing.proofs.Thinned.{thinned_length, thickness_at_lem, thinned_here, thinned_elsewhere}

-- the thickness at the place is that at the index
pub thickness_here : (p : Panel) (at : ℕ) → at < p.count → thickness_at (suc at) (lamellae p) ≡ get_or p.thicknesses at 0
thickness_here p at h =
    thickness_at_lem at (lamellae p) ∙ ap (λ (l : Lamella). l.thickness) (get_or_lamellae_of p.directions p.thicknesses p.count at h)

pub allowed_at : (p : Panel) (at tenths : ℕ) → at < p.count → 0 < tenths
    → leb (least_kept + tenths) (get_or p.thicknesses at 0) ≡ allowed p (record { place = suc at; tenths = tenths })
allowed_at p at tenths h k =
    sym
    (ap₂ (λ (b : Bool) (thick : ℕ). b && leb (least_kept + tenths) thick) (lt-ltb 0 tenths k) (thickness_here p at h))

-- the lamellae of the array that has one thickness less
pub cut_arrays : (gs ts : List ℕ) (n at tenths : ℕ) → at < n → at < length ts
    → lamellae_of gs (set ts at (get_or ts at 0 - tenths)) n ≡ thinned (suc at) tenths (lamellae_of gs ts n)
unfolding lamellae_of
cut_arrays gs ts n at tenths h k =
    ap (firsts cut) (sym many) ∙ firsts_get_or cut (thinned (suc at) tenths (lamellae_of gs ts n)) (lamella 0 0) (λ i l. each i l (eqb i at) refl)
  where
    cut : ℕ → Lamella
    cut i = lamella (get_or gs i 0) (get_or (set ts at (get_or ts at 0 - tenths)) i 0)

    many : length (thinned (suc at) tenths (lamellae_of gs ts n)) ≡ n
    many = thinned_length (suc at) tenths (lamellae_of gs ts n) ∙ length_lamellae_of gs ts n

    each : (i : ℕ) → i < length (thinned (suc at) tenths (lamellae_of gs ts n)) → (same : Bool) → eqb i at ≡ same
        → cut i ≡ get_or (thinned (suc at) tenths (lamellae_of gs ts n)) i (lamella 0 0)
    each i l true t =
        let e = eqb-true i at t in
        let here = get_or_lamellae_of gs ts n at h in
        ap cut e
        ∙ ap (lamella (get_or gs at 0)) (get_or-set_same ts at (get_or ts at 0 - tenths) 0 k)
        ∙ sym (ap (λ (x : Lamella). lamella x.direction (x.thickness - tenths)) here)
        ∙ sym (thinned_here at tenths (lamellae_of gs ts n) (omega (arith, length_lamellae_of gs ts n)))
        ∙ ap (λ (j : ℕ). get_or (thinned (suc at) tenths (lamellae_of gs ts n)) j (lamella 0 0)) (sym e)
    each i l false t =
        let ne = eqb-false i at t in
        ap (lamella (get_or gs i 0)) (get_or-set_other ts at i (get_or ts at 0 - tenths) 0 ne)
        ∙ sym (get_or_lamellae_of gs ts n i (omega (arith, many)))
        ∙ sym (thinned_elsewhere at i tenths (lamellae_of gs ts n) ne)

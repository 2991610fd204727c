-- A loop over lent lamellae: at each round the pair of numbers is the next lamella, and after the last round there is none left.
use Prim.Native.Nat.{ℕ, ◌+◌, ◌≤◌, ◌<◌}
use mathlib.Core.Path.{◌≡◌, refl, sym, ap, ap₂, ◌∙◌}
use mathlib.Core.List.{List, [], ◌∷◌, map}
use native.Mathlib.Omega.{arith}
use denote.Ref.{Bor}
use lib.ListN.{length, get_or, length-map, get_or-map}
use lib.Seq.{take-length, take_all, ext_get_or}
use native.Mathlib.Nat.{le_refl}
use Rattle.std.specs.List.{zip}
use Rattle.std.specs.Prelude.{sum, Option, Some, None}
use Rattle.std.proofs.iter.Yields.{fronts}
use Rattle.std.proofs.lemmas.Iterator.{zips}
use Rattle.std.proofs.lemmas.List.Sums.{sum_by-cons}
use Rattle.std.proofs.lemmas.Slice.Zip.{zip_turn, zip_end, length-zip, get_or-zip}
use Rattle.std.specs.Iterator.{Yields}
use Rattle.std.specs.Iterator.Adapters.{zip_first, zip_second}
use Rattle.std.proofs.Common.{Iter}
use Rattle.std.specs.declared.iter.Zip.{Zip}
use Rattle.std.specs.Slice.Iter.{iter_rest}
use Rattle.panel.specs.declared.lamellae.Lamellae.{Lamellae}
use Rattle.panel.specs.Lamellae.{Lamella, lamella, lamellae, thickness}
use Rattle.panel.specs.declared.Panel.{Panel}
use Rattle.panel.specs.Lent.{lamellae_in}
use Rattle.panel.proofs.Used.{length_lamellae_of, get_or_lamellae_of, directions_lamellae_of, thicknesses_lamellae_of}

-- as many lamellae as directions
pub length_in : (l : Lamellae) → length (lamellae_in l) ≡ length l.directions.now
length_in l = length_lamellae_of l.directions.now l.thicknesses.now (length l.directions.now)

module _ (l : Lamellae) (xs : List (Bor ℕ × Bor ℕ)) (s t u : Zip (Iter ℕ) (Iter ℕ)) (r : Option (Bor ℕ × Bor ℕ))
    (first : iter_rest (zip_first s) ≡ l.directions.now) (second : iter_rest (zip_second s) ≡ l.thicknesses.now)
    (y : Yields (zips fronts fronts) s xs t) (step : zips fronts fronts t r u) where
  pub next_lamella :
      (p : Bor ℕ × Bor ℕ) → r ≡ Some p
      → (length xs < length (lamellae_in l)) × (get_or (lamellae_in l) (length xs) (lamella 0 0) ≡ lamella p.0.now p.1.now)
  next_lamella p e =
      let turn = zip_turn l.directions.now l.thicknesses.now xs s t u r first second y p e step in
      let n = length l.directions.now in (
        omega (arith, turn.0, length_in l),
        get_or_lamellae_of l.directions.now l.thicknesses.now n (length xs) turn.0
            ∙ sym (ap₂ lamella (turn.2 0) (turn.3 0)),
      )

  pub no_lamella_left : r ≡ None → length (lamellae_in l) ≤ length xs
  no_lamella_left e =
      omega (
        arith,
        zip_end l.directions.now l.thicknesses.now xs s t u r first second y e step,
        l.aligned,
        length_in l,
      )

-- Chains over lent lamellae

-- the lent slices, whole, hold the lamellae's numbers
pub directions_in : (l : Lamellae) → map (λ (x : Lamella). x.direction) (lamellae_in l) ≡ l.directions.now
directions_in l =
    let gs = l.directions.now in
    directions_lamellae_of gs l.thicknesses.now (length gs) (le_refl (length gs)) ∙ take-length gs

pub thicknesses_in : (l : Lamellae) → map (λ (x : Lamella). x.thickness) (lamellae_in l) ≡ l.thicknesses.now
thicknesses_in l =
    let ts = l.thicknesses.now in
    let n = length l.directions.now in
    thicknesses_lamellae_of l.directions.now ts n (omega (arith, l.aligned)) ∙ take_all n ts (omega (arith, l.aligned))

-- and their pairs are the lamellae
pub pairs_in : (l : Lamellae) → lamellae_in l ≡ map (λ (p : ℕ × ℕ). lamella p.0 p.1) (zip l.directions.now l.thicknesses.now)
pairs_in l =
    let gs = l.directions.now in
    let ts = l.thicknesses.now in
    let long = length_lamellae_of gs ts (length gs) in
    let pairs = zip gs ts in
    ext_get_or (lamella 0 0) (lamellae_in l) (map (λ (p : ℕ × ℕ). lamella p.0 p.1) pairs)
    (omega (arith, long, length-map pairs (λ (p : ℕ × ℕ). lamella p.0 p.1), length-zip gs ts, l.aligned))
    (λ i h.
    let here : i < length gs = omega arith in
    let there : i < length ts = omega (arith, l.aligned) in
    get_or_lamellae_of gs ts (length gs) i here
    ∙ ap (λ (p : ℕ × ℕ). lamella p.0 p.1) (sym (get_or-zip gs ts i (0, 0) here there))
    ∙ sym (get_or-map (λ (p : ℕ × ℕ). lamella p.0 p.1) pairs i (0, 0)))

-- their thickness is the sum of the thicknesses
pub thickness_sum : (ls : List Lamella) → thickness ls ≡ sum (map (λ (x : Lamella). x.thickness) ls)
unfolding thickness
thickness_sum [] = refl
thickness_sum (x ∷ ls) =
    ap (λ n. x.thickness + n) (thickness_sum ls) ∙ sym (sum_by-cons (λ n. n) x.thickness (map (λ (y : Lamella). y.thickness) ls))

pub thickness_in : (l : Lamellae) → thickness (lamellae_in l) ≡ sum l.thicknesses.now
thickness_in l = thickness_sum (lamellae_in l) ∙ ap sum (thicknesses_in l)

-- a panel has at most nine lamellae
pub nine_lamellae : (p : Panel) → p.count ≤ 9 → length (lamellae p) ≤ 9
nine_lamellae p h = rw (length_lamellae_of p.directions p.thicknesses p.count) h

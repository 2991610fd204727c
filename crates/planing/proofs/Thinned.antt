-- Lamellae one of which is thinner: as many, no thicker in all, lying as they did, and each kept within line 11's limits.
use Rattle.std.proofs.lemmas.Bool.{or_parts, or_from}
use Prim.Native.Nat.{ℕ, zero, suc, ◌+◌, ◌-◌, ◌≤◌, ◌<◌}
use mathlib.Core.Path.{◌≡◌, refl, ap}
use mathlib.Core.List.{List, [], ◌∷◌}
use mathlib.Core.Bool.{Bool, false, ◌||◌}
use native.Mathlib.Omega.{arith}
use borrow.Author.Tests.{le-ltb}
use lib.Dec.{ltb}
use lib.ListN.{length, get_or}
use Rattle.numbers.proofs.Booleans.{in_range}
use Rattle.panel.specs.Lamellae.{Lamella, lamella, lies, thickness}
use Rattle.panel.specs.declared.Material.TheVariants.{Wood}
use Rattle.panel.specs.Materials.{bad_thickness}
use Rattle.refusals.specs.Causes.{bad_lamella, some}
use Rattle.planing.specs.Cuts.{thickness_at, thinned, least_kept}

pub thinned_length : (place tenths : ℕ) (ls : List Lamella) → length (thinned place tenths ls) ≡ length ls
unfolding thinned
thinned_length place tenths [] = refl
thinned_length zero tenths (l ∷ ls) = refl
thinned_length (suc zero) tenths (l ∷ ls) = refl
thinned_length (suc (suc place)) tenths (l ∷ ls) = ap suc (thinned_length (suc place) tenths ls)

pub thinned_thickness : (place tenths : ℕ) (ls : List Lamella) → thickness (thinned place tenths ls) ≤ thickness ls
unfolding thinned thickness
thinned_thickness place tenths [] = omega arith
thinned_thickness zero tenths (l ∷ ls) = omega arith
thinned_thickness (suc zero) tenths (l ∷ ls) = omega arith
thinned_thickness (suc (suc place)) tenths (l ∷ ls) = omega (arith, thinned_thickness (suc place) tenths ls)

pub thinned_lie : (d place tenths : ℕ) (ls : List Lamella) → some (lies d) (thinned place tenths ls) ≡ some (lies d) ls
unfolding thinned some
thinned_lie d place tenths [] = refl
thinned_lie d zero tenths (l ∷ ls) = refl
thinned_lie d (suc zero) tenths (l ∷ ls) = refl
thinned_lie d (suc (suc place)) tenths (l ∷ ls) = ap (λ (b : Bool). lies d l || b) (thinned_lie d (suc place) tenths ls)

-- a thickness of which at least 10.0 mm are kept stays within line 11's limits
kept_within : (h tenths : ℕ) → least_kept + tenths ≤ h → bad_thickness Wood h ≡ false → bad_thickness Wood (h - tenths) ≡ false
kept_within h tenths kept e =
    let within = in_range 100 600 h e in
    or_from (ltb (h - tenths) 100) (ltb 600 (h - tenths)) (le-ltb (h - tenths) 100 (omega arith)) (le-ltb 600 (h - tenths) (omega arith))

pub thinned_good :
    (place tenths : ℕ) (ls : List Lamella) → least_kept + tenths ≤ thickness_at place ls → some bad_lamella ls ≡ false
    → some bad_lamella (thinned place tenths ls) ≡ false
unfolding thinned thickness_at some
thinned_good place tenths [] kept e = refl
thinned_good zero tenths (l ∷ ls) kept e = e
thinned_good (suc zero) tenths (l ∷ ls) kept e =
    let both = or_parts (bad_lamella l) (some bad_lamella ls) e in
    let one = or_parts (ltb 1 l.direction) (bad_thickness Wood l.thickness) both.0 in
    or_from (bad_lamella (lamella l.direction (l.thickness - tenths))) (some bad_lamella ls)
    (or_from (ltb 1 l.direction) (bad_thickness Wood (l.thickness - tenths)) one.0 (kept_within l.thickness tenths kept one.1)) both.1
thinned_good (suc (suc place)) tenths (l ∷ ls) kept e =
    let both = or_parts (bad_lamella l) (some bad_lamella ls) e in
    or_from (bad_lamella l) (some bad_lamella (thinned (suc place) tenths ls)) both.0 (thinned_good (suc place) tenths ls kept both.1)

-- By places, as arrays have them: place at + 1 is that of index `at`

pub thickness_at_lem : (at : ℕ) (ls : List Lamella) → thickness_at (suc at) ls ≡ (get_or ls at (lamella 0 0)).thickness
unfolding thickness_at
thickness_at_lem at [] = refl
thickness_at_lem zero (l ∷ ls) = refl
thickness_at_lem (suc at) (l ∷ ls) = thickness_at_lem at ls

-- there is a lamella wherever one has a thickness
pub place_within : (place : ℕ) (ls : List Lamella) → 0 < thickness_at place ls → (0 < place) × (place ≤ length ls)
unfolding thickness_at
place_within place [] h = absurd (let z : ⊥ = omega arith in z)
place_within zero (l ∷ ls) h = absurd (let z : ⊥ = omega arith in z)
place_within (suc zero) (l ∷ ls) h = (omega arith, omega arith)
place_within (suc (suc place)) (l ∷ ls) h =
    let deeper = place_within (suc place) ls h in
    (omega arith, omega (arith, deeper.1))

-- no lamella is thicker than line 11 lets it be
pub thickness_most : (place : ℕ) (ls : List Lamella) → some bad_lamella ls ≡ false → thickness_at place ls ≤ 600
unfolding thickness_at some
thickness_most place [] e = omega arith
thickness_most zero (l ∷ ls) e = omega arith
thickness_most (suc zero) (l ∷ ls) e =
    let one = or_parts (ltb 1 l.direction) (bad_thickness Wood l.thickness) (or_parts (bad_lamella l) (some bad_lamella ls) e).0 in
    (in_range 100 600 l.thickness one.1).1
thickness_most (suc (suc place)) (l ∷ ls) e = thickness_most (suc place) ls (or_parts (bad_lamella l) (some bad_lamella ls) e).1

-- at the place itself the lamella is thinner, elsewhere it is the same
pub thinned_here :
    (at tenths : ℕ) (ls : List Lamella) → at < length ls
    → get_or (thinned (suc at) tenths ls) at (lamella 0 0)
    ≡ lamella (get_or ls at (lamella 0 0)).direction ((get_or ls at (lamella 0 0)).thickness - tenths)
unfolding thinned
thinned_here at tenths [] h = absurd (let z : ⊥ = omega arith in z)
thinned_here zero tenths (l ∷ ls) h = refl
thinned_here (suc at) tenths (l ∷ ls) h = thinned_here at tenths ls (omega arith)

pub thinned_elsewhere :
    (at i tenths : ℕ) (ls : List Lamella) → (i ≡ at → ⊥) → get_or (thinned (suc at) tenths ls) i (lamella 0 0) ≡ get_or ls i (lamella 0 0)
unfolding thinned
thinned_elsewhere at i tenths [] ne = refl
thinned_elsewhere zero zero tenths (l ∷ ls) ne = absurd (ne refl)
thinned_elsewhere zero (suc i) tenths (l ∷ ls) ne = refl
thinned_elsewhere (suc at) zero tenths (l ∷ ls) ne = refl
thinned_elsewhere (suc at) (suc i) tenths (l ∷ ls) ne = thinned_elsewhere at i tenths ls (λ e. ne (ap suc e))

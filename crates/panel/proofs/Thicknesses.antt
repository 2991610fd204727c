-- Laws of materials: boards of no wood-based type are gypsum, and no layer is thinner than 9.0 mm or thicker than 60.0.
use Rattle.std.proofs.lemmas.Bool.{or_parts}
use Prim.Native.Nat.{◌≤◌}
use mathlib.Core.Path.{◌≡◌, subst}
use mathlib.Core.Bool.{Bool, false}
use lib.Dec.{T, eqb, leb, leb→le}
use Rattle.numbers.proofs.EveryCase.{every_case, every_case_lem}
use Rattle.panel.specs.declared.Board.{Board}
use Rattle.panel.specs.declared.Material.{Material}
use Rattle.panel.specs.declared.Material.TheVariants.{Gypsum}
use Rattle.panel.specs.contracts.Material.{the_parts as parts, the_make as make, as_values, the_eta as eta}
use Rattle.panel.specs.Materials.{thinnest, thickest}
use Rattle.panel.specs.Boards.{letter_o, letter_p, wood_based, material_of}

pub gypsum_else : (b : Board) → wood_based b ≡ false → material_of b.kind ≡ Gypsum
unfolding material_of
gypsum_else b e =
    let both = or_parts (eqb b.kind letter_o) (eqb b.kind letter_p) e in
    rw (material_of, both.0, both.1)

-- what is tested of each material holds of every one
pub every_material : (test : Material → Bool) → T (every_case parts (λ c. test (make c))) → (m : Material) → T (test m)
every_material test t m = subst (λ (k : Material). T (test k)) (eta m) (every_case_lem parts (λ c. test (make c)) t (as_values m))

pub thinnest_least : (m : Material) → 90 ≤ thinnest m
thinnest_least m = leb→le 90 (thinnest m) (every_material (λ k. leb 90 (thinnest k)) tt m)

pub thickest_most : (m : Material) → thickest m ≤ 600
thickest_most m = leb→le (thickest m) 600 (every_material (λ k. leb (thickest k) 600) tt m)

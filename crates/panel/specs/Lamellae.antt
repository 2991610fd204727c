-- Document 01, "The panel record": the lamellae of a panel, and its unused places.
use Rattle.std.specs.Prelude.{ℕ, ◌+◌, ◌-◌, ◌≡◌, List, [], ◌∷◌, ◌++◌, map, Bool, length, get_or, replicate, eqb}
use Rattle.numbers.specs.Firsts.{firsts}
use Rattle.panel.specs.declared.Panel.{Panel}

-- "per lamella, from the exposed face: 0 across or 1 along (1), thickness in tenths of mm (2)"; in a record of version 2, from the first face
pub record Lamella : Type 0 where
  pub direction : ℕ
  pub thickness : ℕ

abbrev pub lamella : ℕ → ℕ → Lamella
lamella g t = record { direction = g; thickness = t }

-- the first n lamellae of a direction and a thickness array
unfoldable pub lamellae_of : List ℕ → List ℕ → ℕ → List Lamella
unfolding firsts
lamellae_of gs ts n = firsts (λ (i : ℕ). lamella (get_or gs i 0) (get_or ts i 0)) n

-- a panel's lamellae: lines, sections, depths, layer times and records see its arrays through this one, so that
-- "unused places are ignored by every call that is given a panel"
abbrev pub lamellae : Panel → List Lamella
lamellae p = lamellae_of p.directions p.thicknesses p.count

-- "An array of nine": the used places, then 0
abbrev pub nine : List ℕ → List ℕ
nine xs = xs ++ replicate (9 - length xs) 0

-- lamellae as a panel holds them, in "thickness and direction arrays of nine"
abbrev pub directions_of : List Lamella → List ℕ
directions_of ls = nine (map (λ (l : Lamella). l.direction) ls)

abbrev pub thicknesses_of : List Lamella → List ℕ
thicknesses_of ls = nine (map (λ (l : Lamella). l.thickness) ls)

-- a panel with other lamellae: nothing else of it changes
abbrev pub with_lamellae : Panel → List Lamella → Panel
with_lamellae p ls = record p { count = length ls; directions = directions_of ls; thicknesses = thicknesses_of ls }

-- "Unused places are .. read as 0": the panel with its unused places 0
abbrev pub cleared : Panel → Panel
cleared p = with_lamellae p (lamellae p)

-- two panels that differ at most in their unused places: they are the same with these 0
abbrev pub SameUsed : Panel → Panel → Type 0
SameUsed p q = cleared p ≡ cleared q

-- whether a lamella lies in a direction: "0 across or 1 along", along the span
abbrev pub lies : ℕ → Lamella → Bool
lies direction l = eqb l.direction direction

abbrev pub across : Lamella → Bool
across l = lies 0 l

abbrev pub along : Lamella → Bool
along l = lies 1 l

-- the thickness of a run of lamellae, tenths of mm
unfoldable pub thickness : List Lamella → ℕ
thickness [] = 0
thickness (l ∷ ls) = l.thickness + thickness ls

-- What lines 2 to 11, 16 and 17 leave of a panel that none of them refuses, as inequalities: the one record of limits that the other crates
-- work within. What their inner functions ask for are parts of it.
use Rattle.std.specs.Prelude.{ℕ, ◌+◌, ◌*◌, ◌<◌, ◌≤◌, ◌≡◌, true, false, List, [], ◌∷◌, get_or}
use Rattle.panel.specs.declared.Board.{Board}
use Rattle.panel.specs.declared.Cladding.{Cladding}
use Rattle.panel.specs.declared.Cladding.TheVariants.{Unclad, One, Two}
use Rattle.panel.specs.declared.Panel.{Panel}
use Rattle.panel.specs.declared.Material.{Material}
use Rattle.panel.specs.declared.Material.TheVariants.{Wood}
use Rattle.panel.specs.Materials.{thinnest, thickest}
use Rattle.panel.specs.Boards.{wood_based, material_of, type_f, whole_joint, gap_loss, inner_gain, charring_start}
use Rattle.panel.specs.Lamellae.{Lamella, lamellae}
use Rattle.panel.specs.Products.{product_of, is_lvl, lvl_rate, AllAlong}
use Rattle.section.specs.Tests.{SectionFits}

-- a layer of the material may have the thickness h
pub record ThicknessKeeps (m : Material) (h : ℕ) : Type 0 where
  pub least : thinnest m ≤ h
  pub most : h ≤ thickest m

-- line 7: of two boards none is wood-based
abbrev pub TypesKeep : Cladding → Type 0
TypesKeep Unclad = Unit
TypesKeep (One b) = Unit
TypesKeep (Two outer inner) = (wood_based outer ≡ false) × (wood_based inner ≡ false)

-- line 8
pub record BoardKeeps (b : Board) : Type 0 where
  pub thickness : ThicknessKeeps (material_of b.kind) b.thickness
  pub joint_least : 1 ≤ b.joint
  pub joint_most : b.joint ≤ whole_joint

abbrev pub CladdingKeeps : Cladding → Type 0
CladdingKeeps Unclad = Unit
CladdingKeeps (One b) = BoardKeeps b
CladdingKeeps (Two outer inner) = BoardKeeps outer × BoardKeeps inner

-- line 11
pub record LamellaKeeps (l : Lamella) : Type 0 where
  pub direction : l.direction ≤ 1
  pub thickness : ThicknessKeeps Wood l.thickness

abbrev pub LamellaeKeep : List Lamella → Type 0
LamellaeKeep [] = Unit
LamellaeKeep (l ∷ ls) = LamellaKeeps l × LamellaeKeep ls

-- line 17, of an LVL panel
pub record LvlKeeps (p : Panel) : Type 0 where
  pub along : AllAlong (lamellae p)
  pub rate : p.rate ≡ lvl_rate

-- the first n thicknesses of an array are those of lamellae
abbrev pub ThicknessesKeep : List ℕ → ℕ → Type 0
ThicknessesKeep ts n = (i : ℕ) → i < n → ThicknessKeeps Wood (get_or ts i 0)

pub record Keeps (p : Panel) : Type 0 where
  -- line 2
  pub version_least : 1 ≤ p.version
  pub version_most : p.version ≤ 2
  -- line 16
  pub face : p.face ≤ 2
  pub first_face : p.version ≡ 1 → p.face ≡ 0
  -- line 3
  pub bond : p.bond ≤ 2
  pub gap : p.gap ≤ 1
  -- line 4
  pub rate_least : 50 ≤ p.rate
  pub rate_most : p.rate ≤ 100
  -- lines 5, 10 and 11: strength, moment, count and thickness
  pub strength_least : 1 ≤ p.strength
  pub count_least : 1 ≤ p.count
  pub section : SectionFits p
  -- line 7
  pub types : TypesKeep p.cladding
  -- line 8
  pub boards : CladdingKeeps p.cladding
  -- line 9: t_ch is no later than the given failure time of type F
  pub given : type_f p.cladding ≡ true → (charring_start p.gap p.cladding ≤ p.failure_time) × (p.failure_time ≤ 360000)
  pub not_given : type_f p.cladding ≡ false → p.failure_time ≡ 0
  -- line 11
  pub each : LamellaeKeep (lamellae p)
  -- line 17
  pub lvl : is_lvl (product_of p.bond) ≡ true → LvlKeeps p

-- the difference in t_ch behind gypsum is not cut off at 0
abbrev pub StartWhole : ℕ → Cladding → Type 0
StartWhole gap Unclad = Unit
StartWhole gap (One b) = gap_loss gap ≤ 280 * b.thickness
StartWhole gap (Two outer inner) = gap_loss gap ≤ 280 * outer.thickness + inner_gain inner * inner.thickness

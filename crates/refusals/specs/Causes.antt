-- The causes of the lines that are about a panel, each as a test of it, and of lines 14 and 15, of a call: document 01's table, and 02's
-- lines 2, 16 and 17.
use Rattle.std.specs.Prelude.{ℕ, List, [], ◌∷◌, Bool, false, not, ◌&&◌, ◌||◌, eqb, ltb}
use Rattle.numbers.specs.Choice.{outside}
use Rattle.panel.specs.declared.Board.{Board}
use Rattle.panel.specs.declared.Cladding.{Cladding}
use Rattle.panel.specs.declared.Cladding.TheVariants.{Unclad, One, Two}
use Rattle.panel.specs.declared.Panel.{Panel}
use Rattle.panel.specs.Lamellae.{Lamella, lamellae, across, along, thickness}
use Rattle.panel.specs.declared.Material.TheVariants.{Wood}
use Rattle.panel.specs.Materials.{bad_thickness}
use Rattle.panel.specs.Boards.{known, wood_based, material_of, is_f, type_f, whole_joint, charring_start}
use Rattle.panel.specs.Products.{product_of, is_lvl, lvl_rate}
use Rattle.section.specs.Tests.{depth_passes}

-- 2, version: "all but 1 and 2"
abbrev pub bad_version : Panel → Bool
bad_version p = outside 1 2 p.version

-- 16, face: "above 2, or a version 1 panel with a face other than 0"
abbrev pub bad_face : Panel → Bool
bad_face p = ltb 2 p.face || (eqb p.version 1 && not (eqb p.face 0))

-- 3, bond, gap: "either above 1"; document 02, 10/14: "Bond value 2, which line 3 now lets through"
abbrev pub bad_bond_or_gap : Panel → Bool
bad_bond_or_gap p = ltb 2 p.bond || ltb 1 p.gap

-- 4, rate: "outside 50 to 100"
abbrev pub bad_rate : Panel → Bool
bad_rate p = outside 50 100 p.rate

-- 5, strength, moment: "f outside 1 to 400, M above 1,000,000"
abbrev pub bad_moment : ℕ → Bool
bad_moment moment = ltb 1000000 moment

abbrev pub bad_load : Panel → Bool
bad_load p = outside 1 400 p.strength || bad_moment p.moment

-- 7, board types: "unknown, or F paired with A or H"; of O and P, "beside another board they meet 7"
abbrev pub bad_types : Cladding → Bool
bad_types Unclad = false
bad_types (One b) = not (known b)
bad_types (Two outer inner) =
    not (known outer) || not (known inner) || (is_f outer && not (is_f inner)) || (not (is_f outer) && is_f inner)
    || wood_based outer || wood_based inner

-- 8, board numbers: "thickness outside 90 to 250, coefficient outside 1 to 100"; of O and P, "20.0 to 40.0 mm .. outside that range 8"
abbrev pub bad_board : Board → Bool
bad_board b = bad_thickness (material_of b.kind) b.thickness || outside 1 whole_joint b.joint

abbrev pub bad_boards : Cladding → Bool
bad_boards Unclad = false
bad_boards (One b) = bad_board b
bad_boards (Two outer inner) = bad_board outer || bad_board inner

-- 9, failure time: "type F: below t_ch or above 360,000; otherwise not 0"
abbrev pub bad_failure_time : Panel → Bool
bad_failure_time p =
    (type_f p.cladding && outside (charring_start p.gap p.cladding) 360000 p.failure_time)
    || (not (type_f p.cladding) && not (eqb p.failure_time 0))

-- 10, lamella count: "outside 1 to 9"
abbrev pub bad_count : ℕ → Bool
bad_count count = outside 1 9 count

-- 11, lamellae: "direction above 1, thickness outside 100 to 600, sum above 4,000"
abbrev pub bad_lamella : Lamella → Bool
bad_lamella l = ltb 1 l.direction || bad_thickness Wood l.thickness

-- whether a test holds of some lamella
unfoldable pub some : (Lamella → Bool) → List Lamella → Bool
some test [] = false
some test (l ∷ ls) = test l || some test ls

abbrev pub bad_lamellae : Panel → Bool
bad_lamellae p = some bad_lamella (lamellae p) || ltb 4000 (thickness (lamellae p))

-- 17, LVL: "LVL with a lamella across or rate other than 65"
abbrev pub bad_lvl : Panel → Bool
bad_lvl p = is_lvl (product_of p.bond) && (some across (lamellae p) || not (eqb p.rate lvl_rate))

-- 12, lamellae: "none along"
abbrev pub none_along : Panel → Bool
none_along p = not (some along (lamellae p))

-- 13, section: "depth 0 does not pass"
abbrev pub bad_section : Panel → Bool
bad_section p = not (depth_passes p 0)

-- 14, lent space: "fewer than 361 depths, or fewer bytes than the record or card written", fewer than needed
abbrev pub bad_space : ℕ → ℕ → Bool
bad_space needed given = ltb given needed

-- 15, minute: "asked or wanted minute above 360"
abbrev pub last_minute : ℕ
last_minute = 360

abbrev pub bad_minute : ℕ → Bool
bad_minute minute = ltb last_minute minute

-- Document 01, "The panel record" and "Charring", and document 02, 1/14: the boards, and when charring starts behind them.
use Rattle.std.specs.Prelude.{ℕ, ◌+◌, ◌-◌, ◌*◌, ◌/◌, List, [], ◌∷◌, Bool, true, false, ◌||◌, eqb}
use Rattle.std.specs.Str.{byte}
use Rattle.numbers.specs.Choice.{pick}
use Rattle.panel.specs.declared.Board.{Board}
use Rattle.panel.specs.declared.Cladding.{Cladding}
use Rattle.panel.specs.declared.Cladding.TheVariants.{Unclad, One, Two}
use Rattle.panel.specs.declared.Material.{Material}
use Rattle.panel.specs.declared.Material.TheVariants.{Gypsum, Osb, ParticleBoard}

-- "outer first"
abbrev pub boards_of : Cladding → List Board
boards_of Unclad = []
boards_of (One b) = b ∷ []
boards_of (Two outer inner) = outer ∷ inner ∷ []

-- "type A, F or H as its ASCII letter"; "Type O (OSB, EN 300) and P (particle board, EN 312) join the letters"
abbrev pub letter_a : ℕ
letter_a = byte "A"

abbrev pub letter_f : ℕ
letter_f = byte "F"

abbrev pub letter_h : ℕ
letter_h = byte "H"

abbrev pub letter_o : ℕ
letter_o = byte "O"

abbrev pub letter_p : ℕ
letter_p = byte "P"

-- boards of OSB or particle board, which are wood-based
abbrev pub wood_based : Board → Bool
wood_based b = eqb b.kind letter_o || eqb b.kind letter_p

abbrev pub known : Board → Bool
known b = eqb b.kind letter_a || eqb b.kind letter_f || eqb b.kind letter_h || wood_based b

-- what boards of a type are made of; A, F and H, and whatever line 7 refuses, count as gypsum
unfoldable pub material_of : ℕ → Material
material_of kind =
    elim (eqb kind letter_o) [
      | true ↦ Osb
      | false ↦ elim (eqb kind letter_p) [ true ↦ ParticleBoard | false ↦ Gypsum ]
    ]

-- type F, whose failure time is given
abbrev pub is_f : Board → Bool
is_f b = eqb b.kind letter_f

-- whether the boards are of type F: both are or neither, by line 7
abbrev pub type_f : Cladding → Bool
type_f Unclad = false
type_f (One b) = is_f b
type_f (Two outer inner) = is_f outer

-- a joint coefficient that takes nothing off, in hundredths
abbrev pub whole_joint : ℕ
whole_joint = 100

-- "Wide gap: 23,000 for 14,000", thousandths of a minute
abbrev pub gap_loss : ℕ → ℕ
gap_loss gap = pick (eqb gap 1) 23000 14000

-- "140·inner .. for A/H, with 224 for 140 for F", thousandths of a minute for a tenth of mm
abbrev pub inner_gain : Board → ℕ
inner_gain b = pick (is_f b) 224 140

-- "Charring under them starts after h at 0.90 mm/min, thousandths rounded down": h tenths of mm take h/9 minutes
abbrev pub char_through : Board → ℕ
char_through b = 1000 * b.thickness / 9

-- t_ch, the start of charring, in thousandths of a minute: "one board 280h − 14,000; two boards 280·outer + 140·inner − 14,000
-- for A/H, with 224 for 140 for F; h in tenths of mm. Wide gap: 23,000 for 14,000. Unclad: 0." Wood-based boards stand alone, and
-- "the joint gap doesn't count for them"
abbrev pub charring_start : ℕ → Cladding → ℕ
charring_start gap Unclad = 0
charring_start gap (One b) = pick (wood_based b) (char_through b) (280 * b.thickness - gap_loss gap)
charring_start gap (Two outer inner) = 280 * outer.thickness + inner_gain inner * inner.thickness - gap_loss gap

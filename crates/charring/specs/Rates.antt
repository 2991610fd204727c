-- Document 01, "Charring": times and rates. Times are in thousandths of a minute, the rate β in hundredths of mm/min, lengths in
-- picometres (10⁻⁹ mm), in which every product of these is whole.
use Rattle.std.specs.Prelude.{ℕ, ◌+◌, ◌-◌, ◌*◌, min, List, [], ◌∷◌, Bool, true, false, eqb, ltb}
use Rattle.numbers.specs.Choice.{pick}
use Rattle.panel.specs.declared.Cladding.{Cladding}
use Rattle.panel.specs.declared.Cladding.TheVariants.{Unclad, One, Two}
use Rattle.panel.specs.declared.Panel.{Panel}
use Rattle.panel.specs.Boards.{type_f, charring_start}
use Rattle.panel.specs.Lamellae.{Lamella, lamellae, thickness}
use Rattle.panel.specs.Products.{rate_of}

-- Units

abbrev pub tenth : ℕ
tenth = 100000000

-- 25 mm
abbrev pub fast_run : ℕ
fast_run = 25000000000

-- Times and rates

-- t_ch
abbrev pub start_of : Panel → ℕ
start_of p = charring_start p.gap p.cladding

-- "t_f = t_ch for A and H, the given time for F, 0 unclad."; of O and P "t_f is the same time" as t_ch
unfoldable pub failure_of : Panel → ℕ
failure_of p = pick (type_f p.cladding) p.failure_time (start_of p)

-- "k2 = (10,000 − 18h)/10,000, h the inner or only board", in ten-thousandths; 0 unclad, where it is never used
unfoldable pub k2 : Cladding → ℕ
k2 Unclad = 0
k2 (One b) = 10000 - 18 * b.thickness
k2 (Two outer inner) = 10000 - 18 * inner.thickness

unfoldable pub clad : Cladding → Bool
clad Unclad = false
clad (One b) = true
clad (Two outer inner) = true

-- β for a thousandth of a minute, in picometres
abbrev pub plain_rate : Panel → ℕ
plain_rate p = 10000 * rate_of p

-- "the rate is k2·β"
abbrev pub slow_rate : Panel → ℕ
slow_rate p = k2 p.cladding * rate_of p

-- the thickness of the panel
abbrev pub back_face : Panel → ℕ
back_face p = tenth * thickness (lamellae p)

-- the char depth at t_f
abbrev pub depth_at_failure : Panel → ℕ
depth_at_failure p = slow_rate p * (failure_of p - start_of p)

-- Runs

-- the bond lines below a depth `top`, from the exposed face; the back face is no line
unfoldable pub lines_from : ℕ → List Lamella → List ℕ
lines_from top [] = []
lines_from top (l ∷ []) = []
lines_from top (l ∷ m ∷ ls) = (top + tenth * l.thickness) ∷ lines_from (top + tenth * l.thickness) (m ∷ ls)

-- the lines that matter: "Bond holds: lines don't matter."; LVL has "no bond lines"
unfoldable pub bond_lines : Panel → List ℕ
bond_lines p = elim (eqb p.bond 1) [ true ↦ lines_from 0 (lamellae p) | false ↦ [] ]

-- "25 mm past that line or at the next line", whichever is nearer; the lines are those below it
unfoldable pub line_end : ℕ → List ℕ → ℕ
line_end line [] = line + fast_run
line_end line (next ∷ lines) = min (line + fast_run) next

-- where the first run, at t_f, ends if no line was passed before: "With t_f = t_ch this ends at 2·t_f or at 25 mm of char, whichever
-- comes earlier. With t_ch < t_f it ends at 25 mm of char .. An unclad panel starts at β."
unfoldable pub intact_end : Panel → ℕ
intact_end p =
    pick (clad p.cladding) (pick (eqb (start_of p) (failure_of p)) (min (2 * plain_rate p * failure_of p) fast_run) fast_run) 0

-- document 02, 6/14: "if lines were passed before t_f, the fast run at t_f now ends .. 25 mm past the deepest such line or at the next
-- line, whichever is nearer": the last of the lines that is short of `deep`, the depth at t_f, puts its end in place of `end`
unfoldable pub passed_end : ℕ → ℕ → List ℕ → ℕ
passed_end deep end [] = end
passed_end deep end (line ∷ lines) = passed_end deep (pick (ltb line deep) (line_end line lines) end) lines

-- where the first run ends: "Where no line was passed the former rule holds."
unfoldable pub first_end : Panel → ℕ
first_end p = passed_end (depth_at_failure p) (intact_end p) (bond_lines p)

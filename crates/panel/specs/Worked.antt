-- Document 01, "Panels worked through": the panels that its starred lines speak of.
use Rattle.std.specs.Prelude.{ℕ, List, [], ◌∷◌, length}
use Rattle.panel.specs.declared.Board.{Board}
use Rattle.panel.specs.declared.Cladding.{Cladding}
use Rattle.panel.specs.declared.Cladding.TheVariants.{Unclad, One}
use Rattle.panel.specs.declared.Panel.{Panel}
use Rattle.panel.specs.Boards.{letter_a}
use Rattle.panel.specs.Lamellae.{Lamella, lamella, directions_of, thicknesses_of}

-- a panel of record version 1 from its numbers in the record's order (bond, β, gap, f, M, failure time), its boards and its lamellae
abbrev pub panel_with : ℕ → ℕ → ℕ → ℕ → ℕ → ℕ → Cladding → List Lamella → Panel
panel_with bond rate gap f m failure boards ls =
    record {
      version = 1;
      face = 0;
      bond = bond;
      rate = rate;
      gap = gap;
      strength = f;
      moment = m;
      failure_time = failure;
      cladding = boards;
      count = length ls;
      directions = directions_of ls;
      thicknesses = thicknesses_of ls;
    }

-- a panel in record version 2, with the fire on a face
abbrev pub on_face : ℕ → Panel → Panel
on_face face p = record p { version = 2; face = face }

-- "30 along, 40 across, 30 along (mm)"
abbrev pub g_lamellae : List Lamella
g_lamellae = lamella 1 300 ∷ lamella 0 400 ∷ lamella 1 300 ∷ []

-- G: "f 240, β 65, unclad, gap 0, bond holds"; the moment is open
abbrev pub g : ℕ → Panel
g m = panel_with 0 65 0 240 m 0 Unclad g_lamellae

-- "G with falling bond"
abbrev pub g_falling : ℕ → Panel
g_falling m = panel_with 1 65 0 240 m 0 Unclad g_lamellae

-- "10 along, 60 across, 60 along, f 240, M 15,000"
abbrev pub recovers : Panel
recovers = panel_with 0 65 0 240 15000 0 Unclad (lamella 1 100 ∷ lamella 0 600 ∷ lamella 1 600 ∷ [])

-- boards with coefficient 100, by type and thickness
abbrev pub board_of : ℕ → ℕ → Board
board_of kind h = record { kind = kind; thickness = h; joint = 100 }

-- boards of 12.5 mm, by type
abbrev pub board125 : ℕ → Board
board125 kind = board_of kind 125

-- "Type A 12.5, coefficient 100, three lamellae 20"
abbrev pub three_behind_a : Panel
three_behind_a = panel_with 0 65 0 240 0 0 (One (board125 letter_a)) (lamella 1 200 ∷ lamella 0 200 ∷ lamella 1 200 ∷ [])

-- "Type A 9.0, β 65, one lamella 60", and the same for another board
abbrev pub one_behind_a : ℕ → Panel
one_behind_a h = panel_with 0 65 0 240 0 0 (One (board_of letter_a h)) (lamella 1 600 ∷ [])

-- Cases worked through further, by hand: of document 01's "Charring" what its starred lines leave out, with the phases; and of document
-- 02 panels behind wood-based boards, walls with a fire on either face, failure times in minutes and seconds, floors charred past a
-- bond line before their board fails, least cuts, and LVL.
use Rattle.std.specs.Prelude.{ℕ, List, [], ◌∷◌, ◌++◌, Some, None, codes, replicate}
use Rattle.panel.specs.declared.Cladding.{Cladding}
use Rattle.panel.specs.declared.Cladding.TheVariants.{Unclad, One, Two}
use Rattle.panel.specs.declared.Panel.{Panel}
use Rattle.panel.specs.Boards.{letter_a, letter_f, letter_o, letter_p, charring_start}
use Rattle.panel.specs.Faces.{turned, shown}
use Rattle.panel.specs.Products.{rate_of}
use Rattle.panel.specs.Lamellae.{Lamella, lamella}
use Rattle.panel.specs.Worked.{panel_with, on_face, g, g_lamellae, board_of, board125}
use Rattle.refusals.specs.Refusals.{panel_refusal}
use Rattle.phases.specs.declared.Phase.TheVariants.{Fast, Settled}
use Rattle.panel.specs.declared.Material.TheVariants.{Osb, ParticleBoard}
use Rattle.record.specs.Taken.{g_bytes}
use Rattle.record.specs.Layouts.{panel_of}
use Rattle.record.specs.Refusals.{record_refusal}
use Rattle.charring.specs.Depths.{char_at, micrometres_at}
use Rattle.basic_times.specs.declared.Role.TheVariants.{Protection, Insulation}
use Rattle.planing.specs.declared.Cut.{Cut}
use Rattle.planing.specs.Cuts.{cut_panel}
use Rattle.cases.specs.Cases.{Case, gives, bears, bears_for, failure_time, in_phase, basic, adds_up, separates, rated, planed, prints, hundredths, hundred_thousandths}

-- Panels

-- document 000, A 1.2: 40-20-20-20-40 mm with falling bond behind type F 12.5 that fails at 55 min, β 63; f 240, no moment
abbrev pub five : Panel
five =
    panel_with 1 63 0 240 0 55000 (One (board125 letter_f))
    (lamella 1 400 ∷ lamella 0 200 ∷ lamella 1 200 ∷ lamella 0 200 ∷ lamella 1 400 ∷ [])

-- one lamella 60 behind boards, β 65, f 240, no moment; gap, failure time and boards are open
abbrev pub one : ℕ → ℕ → Cladding → Panel
one gap failure boards = panel_with 0 65 gap 240 0 failure boards (lamella 1 600 ∷ [])

-- G with M 3,000 behind one board of type F 12.5 that fails at 41 min
abbrev pub g_behind_f : Panel
g_behind_f = panel_with 0 65 0 240 3000 41000 (One (board125 letter_f)) g_lamellae

-- A 12.5 over A 15.0
abbrev pub two_a : Panel
two_a = one 0 0 (Two (board125 letter_a) (board_of letter_a 150))

-- G at β 50 with no moment behind two boards of type F 25.0 that fail at 360 min
abbrev pub g_lasting : Panel
g_lasting = panel_with 0 50 0 240 0 360000 (Two (board_of letter_f 250) (board_of letter_f 250)) g_lamellae

-- two F 12.5, t_f 80 min
abbrev pub two_f : Panel
two_f = one 0 80000 (Two (board125 letter_f) (board125 letter_f))

-- A 9.0 over a wide gap
abbrev pub wide_a : Panel
wide_a = one 1 0 (One (board_of letter_a 90))

-- the record of G with M 3,000 behind one wood-based board of coefficient 100: length 31, version 1, bond 0, rate 65, the gap, f 240,
-- M 3,000, one board, time 0, the board's type and thickness, three lamellae
abbrev pub g_behind : ℕ → ℕ → ℕ → ℕ → List ℕ
g_behind gap kind high low =
    0 ∷ 31 ∷ 1 ∷ 0 ∷ 65 ∷ gap ∷ 0 ∷ 240 ∷ 0 ∷ 0 ∷ 11 ∷ 184 ∷ 1 ∷ 0 ∷ 0 ∷ 0 ∷ 0 ∷ kind ∷ high ∷ low ∷ 100 ∷ 3
    ∷ 1 ∷ 1 ∷ 44 ∷ 0 ∷ 1 ∷ 144 ∷ 1 ∷ 1 ∷ 44 ∷ []

-- behind type O, 20.0 mm, with a wide gap
abbrev pub behind_o : List ℕ
behind_o = g_behind 1 79 0 200

-- behind type P, 40.0 mm
abbrev pub behind_p : List ℕ
behind_p = g_behind 0 80 1 144

-- the record, of version 2, of a wall, 20 mm along, 30 across, 40 along, with falling bond: length 28, version 2, the face, bond 1, rate 65,
-- gap 0, f 240, M 5,000, no boards, time 0, three lamellae
abbrev pub wall : ℕ → List ℕ
wall face =
    0 ∷ 28 ∷ 2 ∷ face ∷ 1 ∷ 65 ∷ 0 ∷ 0 ∷ 240 ∷ 0 ∷ 0 ∷ 19 ∷ 136 ∷ 0 ∷ 0 ∷ 0 ∷ 0 ∷ 0 ∷ 3
    ∷ 1 ∷ 0 ∷ 200 ∷ 0 ∷ 1 ∷ 44 ∷ 1 ∷ 1 ∷ 144 ∷ []

-- a floor, 20 mm along, 40 across, 40 along, behind one board of type F 12.5, β 80; f 240, M 1,000; bond and failure time are open
abbrev pub floor : ℕ → ℕ → Panel
floor bond failure = panel_with bond 80 0 240 1000 failure (One (board125 letter_f)) (lamella 1 200 ∷ lamella 0 400 ∷ lamella 1 400 ∷ [])

-- G with M 3,000 behind type F 9.0 over a wide gap that fails at 5 min: t_ch 2.2 min
abbrev pub soon_failed : Panel
soon_failed = panel_with 0 65 1 240 3000 5000 (One (board_of letter_f 90)) g_lamellae

-- G with M 3,000 behind two boards of type F, 9.0 over 25.0, that fail at 100 min
abbrev pub thicker_inside : Panel
thicker_inside = panel_with 0 65 0 240 3000 100000 (Two (board_of letter_f 90) (board_of letter_f 250)) g_lamellae

-- a floor, 10 mm along, 10 across, 30 along, with falling bond behind type F 12.5 that fails at 41 min, β 80; f 240, M 100
abbrev pub thin_floor : Panel
thin_floor = panel_with 1 80 0 240 100 41000 (One (board125 letter_f)) (lamella 1 100 ∷ lamella 0 100 ∷ lamella 1 300 ∷ [])

-- bare lamellae in record version 2, with the fire on a face; f 240, bond holds
abbrev pub bare : ℕ → ℕ → ℕ → List Lamella → Panel
bare face rate moment ls = on_face face (panel_with 0 rate 0 240 moment 0 Unclad ls)

-- 40 and 10 mm along, β 65, no moment: 65 minutes EI from the first face, 55 from the last
abbrev pub uneven : ℕ → Panel
uneven face = bare face 65 0 (lamella 1 400 ∷ lamella 1 100 ∷ [])

-- 20.1, 10 and 10 mm along, β 50, no moment: 36 minutes EI from the first face, 30 from the last
abbrev pub thinning : ℕ → Panel
thinning face = bare face 50 0 (lamella 1 201 ∷ lamella 1 100 ∷ lamella 1 100 ∷ [])

-- 10 mm along, some across, some along, β 50, no moment
abbrev pub about_an_hour : ℕ → ℕ → Panel
about_an_hour across last = bare 0 50 0 (lamella 1 100 ∷ lamella 0 across ∷ lamella 1 last ∷ [])

-- two of 10.1 mm along, β 65: with a tenth off either they carry no more than M 1,858
abbrev pub twins : ℕ → Panel
twins face = bare face 65 1859 (lamella 1 101 ∷ lamella 1 101 ∷ [])

-- one of 10.1 mm, β 65: 10.0 mm carry M 460 and no more
abbrev pub single : ℕ → Panel
single moment = bare 0 65 moment (lamella 1 101 ∷ [])

-- so many tenths of mm off the lamella at a place
abbrev pub off : ℕ → ℕ → Cut
off tenths place = record { place = place; tenths = tenths }

-- the record, of version 1, of an LVL floor of two lamellae of 30 mm: length 24, version 1, bond 2, rate 65, gap 0, f 400, M 3,000, no
-- boards, time 0, two lamellae
abbrev pub lvl_floor : List ℕ
lvl_floor = 0 ∷ 24 ∷ 1 ∷ 2 ∷ 65 ∷ 0 ∷ 1 ∷ 144 ∷ 0 ∷ 0 ∷ 11 ∷ 184 ∷ 0 ∷ 0 ∷ 0 ∷ 0 ∷ 0 ∷ 2 ∷ 1 ∷ 1 ∷ 44 ∷ 1 ∷ 1 ∷ 44 ∷ []

-- the record, of version 2, of an LVL panel of one lamella of 15 mm with a fire on each face: length 22, version 2, face 2, bond 2, rate 65,
-- gap 0, f 400, M 100, no boards, time 0, one lamella
abbrev pub lvl_thin : List ℕ
lvl_thin = 0 ∷ 22 ∷ 2 ∷ 2 ∷ 2 ∷ 65 ∷ 0 ∷ 1 ∷ 144 ∷ 0 ∷ 0 ∷ 0 ∷ 100 ∷ 0 ∷ 0 ∷ 0 ∷ 0 ∷ 0 ∷ 1 ∷ 1 ∷ 0 ∷ 150 ∷ []

-- an LVL panel by its rate byte, moment, failure time, boards and lamellae; f 240
abbrev pub lvl_with : ℕ → ℕ → ℕ → Cladding → List Lamella → Panel
lvl_with rate moment failure boards ls = panel_with 2 rate 0 240 moment failure boards ls

-- bare, of the rate of LVL
abbrev pub lvl : ℕ → List Lamella → Panel
lvl moment ls = lvl_with 65 moment 0 Unclad ls

-- one lamella along, so many tenths of mm thick
abbrev pub plate : ℕ → List Lamella
plate h = lamella 1 h ∷ []

-- 20.0 mm that 1 tenth off makes a thin panel
abbrev pub lvl_20 : Panel
lvl_20 = lvl 100 (plate 200)

-- Rows, in seven parts, since antt computes no more than so many steps at once

unfoldable pub charring_rows : List Case
charring_rows =
    -- all four are accepted
    gives (panel_refusal five) 0
    ∷ gives (panel_refusal two_a) 0
    ∷ gives (panel_refusal two_f) 0
    ∷ gives (panel_refusal wide_a) 0
    -- k2·β from 21 min on: 16.6005 mm at t_f, and from there 2β up to 25 mm, which is t_ch < t_f's end
    ∷ gives (char_at five 55 1) (hundred_thousandths 1660050 1)
    ∷ in_phase five 55 1 (Fast 2500000)
    -- 25 mm after 8.3995/1.26 min more; then β
    ∷ gives (char_at five 776995 12600) (hundred_thousandths 2500000 12600)
    ∷ in_phase five 776995 12600 Settled
    -- the first line, at 40 mm: its run is cut off by the next line at 60 mm
    ∷ gives (char_at five 215399 2520) (hundred_thousandths 4000000 2520)
    ∷ in_phase five 215399 2520 (Fast 6000000)
    -- there the next run starts, up to the line at 80 mm
    ∷ gives (char_at five 85133 840) (hundred_thousandths 6000000 840)
    ∷ in_phase five 85133 840 (Fast 8000000)
    -- G behind type F: without the first run behind boards R would be 129
    ∷ bears g_behind_f 117
    -- the floor's board fails at 61 min: k2·β is 0.62 mm/min from 21 min on, so 24.8 mm then, past the line at 20 mm. The first run ends at
    -- 20 + 25 = 45 mm, short of the next line at 60: 2β is 1.6 mm/min, so 40.8 mm at 71 min
    ∷ gives (panel_refusal (floor 1 61000)) 0
    ∷ gives (char_at (floor 1 61000) 61 1) (hundredths 2480 1)
    ∷ in_phase (floor 1 61000) 61 1 (Fast 4500000)
    ∷ gives (char_at (floor 1 61000) 71 1) (hundredths 4080 1)
    -- 45 mm after 20.2/1.6 min; then β; at 60 mm, 15/0.8 min later, the line's own run
    ∷ gives (char_at (floor 1 61000) 589 8) (hundredths 4500 8)
    ∷ in_phase (floor 1 61000) 589 8 Settled
    ∷ in_phase (floor 1 61000) 739 8 (Fast 8500000)
    -- it fails as 85.2 mm no longer carry, that is at 78.2 mm of char, 18.2/1.6 min later
    ∷ bears (floor 1 61000) 103
    ∷ failure_time (floor 1 61000) 415 4
    -- if the bond holds, the first run ends at 25 mm, after 0.2/1.6 min; it fails at 53.2/0.8 min more
    ∷ in_phase (floor 0 61000) 61 1 (Fast 2500000)
    ∷ in_phase (floor 0 61000) 489 8 Settled
    ∷ failure_time (floor 0 61000) 1021 8
    -- if the board fails at 95 min, 45.88 mm are charred by then, more than 45: no run starts
    ∷ gives (char_at (floor 1 95000) 95 1) (hundredths 4588 1)
    ∷ in_phase (floor 1 95000) 95 1 Settled
    -- two boards of type A: t_ch 42,000; 2β up to 25 mm, which comes before 84 min; then β
    ∷ gives (charring_start 0 two_a.cladding) 42000
    ∷ gives (char_at two_a 50 1) (hundredths 1040 1)
    ∷ gives (char_at two_a 70 1) (hundredths 3070 1)
    -- two boards of type F: k2 by the inner board, from 49 min on, then 2β
    ∷ gives (char_at two_f 80 1) (hundred_thousandths 1561625 1)
    ∷ gives (char_at two_f 85 1) (hundred_thousandths 2211625 1)
    -- a wide gap: t_ch = t_f is 2.2 min, so 2β up to 4.4 min, 2.86 mm; then β
    ∷ in_phase wide_a 3 1 (Fast 286000)
    ∷ gives (char_at wide_a 44 10) (hundredths 286 10)
    ∷ gives (char_at wide_a 10 1) (hundredths 650 1)
    ∷ []

unfoldable pub wood_board_rows : List Case
wood_board_rows =
    -- wood-based boards at 20.0 mm have the bases of their rules, at 40.0 mm 2^1.1 and 2^1.4 times as much
    basic Protection Osb 200 23000
    ∷ basic Insulation Osb 200 16000
    ∷ basic Protection ParticleBoard 200 33000
    ∷ basic Insulation ParticleBoard 200 22000
    ∷ basic Protection Osb 400 49301
    ∷ basic Insulation Osb 400 42224
    ∷ basic Protection ParticleBoard 400 70737
    ∷ basic Insulation ParticleBoard 400 58058
    -- they are accepted alone, from 20.0 to 40.0 mm and with no time given
    ∷ gives (panel_refusal (one 0 0 (One (board_of letter_o 199)))) 8
    ∷ gives (panel_refusal (one 0 0 (One (board_of letter_o 200)))) 0
    ∷ gives (panel_refusal (one 0 0 (One (board_of letter_p 400)))) 0
    ∷ gives (panel_refusal (one 0 0 (One (board_of letter_p 401)))) 8
    ∷ gives (panel_refusal (one 0 1 (One (board_of letter_p 300)))) 9
    ∷ gives (panel_refusal (one 0 0 (Two (board_of letter_o 200) (board_of letter_a 200)))) 7
    ∷ gives (panel_refusal (one 0 0 (Two (board_of letter_a 200) (board_of letter_o 200)))) 7
    ∷ gives (panel_refusal (one 0 0 (Two (board_of letter_p 200) (board_of letter_p 200)))) 7
    -- O 20.0: t_ch = t_f = 20/0.90 = 22.222 min, whatever the gap; 2β up to 25 mm, 25/1.3 min later
    ∷ gives (record_refusal behind_o) 0
    ∷ gives (charring_start 1 (panel_of behind_o).cladding) 22222
    ∷ in_phase (panel_of behind_o) 23 1 (Fast 2500000)
    ∷ gives (char_at (panel_of behind_o) 269443 6500) (hundredths 2500 6500)
    ∷ in_phase (panel_of behind_o) 269443 6500 Settled
    -- like G it fails as 74.4 mm no longer carry, that is at 67.4 mm of char, 42.4/0.65 min later
    ∷ bears (panel_of behind_o) 106
    ∷ failure_time (panel_of behind_o) 693443 6500
    ∷ bears_for (panel_of behind_o) 106 41
    ∷ adds_up (panel_of behind_o) 100697
    -- P 40.0: t_ch = t_f = 44.444 min, k0 full then; 25 mm at 63.675 min; fails at 67.4 mm of char
    ∷ gives (record_refusal behind_p) 0
    ∷ gives (charring_start 0 (panel_of behind_p).cladding) 44444
    ∷ bears (panel_of behind_p) 128
    ∷ failure_time (panel_of behind_p) 418943 3250
    ∷ adds_up (panel_of behind_p) 125984
    ∷ []

unfoldable pub fire_rows : List Case
fire_rows =
    -- the wall is accepted with each face
    gives (record_refusal (wall 0)) 0
    ∷ gives (record_refusal (wall 1)) 0
    ∷ gives (record_refusal (wall 2)) 0
    ∷ gives (record_refusal (wall 3)) 16
    -- from its first face: the line at 20 mm is reached at 20/0.65 min, its run ends at 45 mm at 50 min; it fails as 57.0 mm no longer
    -- carry, that is at 50.0 mm of char, 5/0.65 min later
    ∷ gives (char_at (panel_of (wall 0)) 50 1) (hundredths 4500 1)
    ∷ bears (panel_of (wall 0)) 57
    ∷ failure_time (panel_of (wall 0)) 750 13
    ∷ bears_for (panel_of (wall 0)) 57 41
    -- from its last: the first line is at 40 mm; it fails as 35.8 mm no longer carry, that is at 28.8 mm of char, after 28.8/0.65 min
    ∷ gives (char_at (turned (panel_of (wall 1))) 50 1) (hundredths 3250 1)
    ∷ bears (panel_of (wall 1)) 44
    ∷ failure_time (turned (panel_of (wall 1))) 576 13
    ∷ bears_for (panel_of (wall 1)) 44 18
    -- from each alone: R is that of the last face, EI that of the first, and what is shown is that of the first
    ∷ bears (panel_of (wall 2)) 44
    ∷ bears_for (panel_of (wall 2)) 44 18
    ∷ adds_up (panel_of (wall 2)) 82340
    ∷ adds_up (turned (panel_of (wall 2))) 88817
    ∷ separates (panel_of (wall 0)) 82
    ∷ separates (panel_of (wall 1)) 88
    ∷ separates (panel_of (wall 2)) 82
    ∷ gives (micrometres_at (shown (panel_of (wall 1))) 50 1) 32500
    ∷ gives (micrometres_at (shown (panel_of (wall 2))) 50 1) 45000
    -- G, M 3,000: 6,740/65 min are 103 min and 41.5 s
    ∷ bears_for (g 3000) 103 41
    -- within the first minute the effective depth is 1 mm/min: M 42,000 is carried to 0.8 mm, which is 48 s exactly, and M 43,056 at depth 0
    -- alone
    ∷ bears (g 42000) 0
    ∷ failure_time (g 42000) 4 5
    ∷ bears_for (g 42000) 0 48
    ∷ failure_time (g 43056) 0 1
    ∷ bears_for (g 43056) 0 0
    -- t_ch 112 min, from there 0.55·0.50 mm/min: 68.2 mm of char and 75.2 mm of effective depth at 360 min, which leave 24.8 mm
    ∷ bears g_lasting 360
    ∷ bears_for g_lasting 360 0
    ∷ []

unfoldable pub first_run_rows : List Case
first_run_rows =
    -- t_ch 2.2 min, before t_f: the first run ends at 25 mm, and not at 2·t_f, when 8.02 mm have charred. 1.52516 mm at t_f, by
    -- 0.65·(1 − 0.018·9) mm/min; 25 mm after 23.47484/1.3 min more; it fails as 74.4 mm no longer carry, at 67.4 mm of char
    gives (char_at soon_failed 5 1) (hundred_thousandths 152516 1)
    ∷ in_phase soon_failed 5 1 (Fast 2500000)
    ∷ gives (char_at soon_failed 749371 32500) (hundredths 2500 32500)
    ∷ in_phase soon_failed 749371 32500 Settled
    ∷ bears soon_failed 88
    ∷ failure_time soon_failed 2869371 32500
    -- k2 goes by the inner of two boards, though it is the thicker: 0.55·0.65 mm/min from 67.2 min on, so 8.151 mm at 90 min, 11.726 mm at
    -- t_f; 25 mm after 13.274/1.3 min more
    ∷ gives (charring_start 0 thicker_inside.cladding) 67200
    ∷ gives (char_at thicker_inside 90 1) (hundred_thousandths 815100 1)
    ∷ gives (char_at thicker_inside 100 1) (hundred_thousandths 1172600 1)
    ∷ bears thicker_inside 175
    ∷ bears_for thicker_inside 175 26
    -- 12.4 mm at t_f, past the line at 10 mm: the next line, at 20 mm, is nearer than 10 + 25 mm and ends the run, after 7.6/1.6 min
    ∷ gives (char_at thin_floor 41 1) (hundredths 1240 1)
    ∷ in_phase thin_floor 41 1 (Fast 2000000)
    ∷ gives (char_at thin_floor 183 4) (hundredths 2000 4)
    ∷ in_phase thin_floor 183 4 (Fast 4500000)
    ∷ bears thin_floor 57
    ∷ []

unfoldable pub rating_rows : List Case
rating_rows =
    -- REI takes the EI of the fire that is meant, and of each alone the lesser
    rated (uneven 0) 61 65 60
    ∷ rated (uneven 1) 61 55 45
    ∷ rated (uneven 2) 61 55 45
    -- layers that give a thousandth of a minute less than 60 minutes, and 60
    ∷ adds_up (about_an_hour 129 400) 59999
    ∷ rated (about_an_hour 129 400) 105 59 45
    ∷ adds_up (about_an_hour 316 186) 60000
    ∷ rated (about_an_hour 316 186) 100 60 60
    ∷ []

unfoldable pub cut_rows : List Case
cut_rows =
    -- a single lamella has one allowed cut
    planed (single 460) 0 7 0 None
    ∷ planed (single 461) 0 7 0 (Some (off 1 1))
    -- as much at two places: the one nearest the fire, of each alone nearest the first face
    ∷ planed (twins 0) 0 16 0 (Some (off 1 1))
    ∷ planed (twins 1) 0 16 0 (Some (off 1 2))
    ∷ planed (twins 2) 0 16 0 (Some (off 1 1))
    -- EI from the last face falls below 30 minutes
    ∷ planed (thinning 1) 60 30 30 (Some (off 2 1))
    ∷ planed (thinning 2) 60 30 30 (Some (off 2 1))
    ∷ []

unfoldable pub lvl_rows : List Case
lvl_rows =
    -- the floor: no run starts at 30 mm, where the lamellae meet, so 39.0 mm at 60 min
    gives (record_refusal lvl_floor) 0
    ∷ gives (rate_of (panel_of lvl_floor)) 65
    ∷ gives (char_at (panel_of lvl_floor) 60 1) (hundredths 3900 1)
    ∷ in_phase (panel_of lvl_floor) 47 1 Settled
    -- it fails as 39.7 mm no longer carry, that is at 32.7 mm of char, after 32.7/0.65 min
    ∷ bears (panel_of lvl_floor) 50
    ∷ failure_time (panel_of lvl_floor) 654 13
    ∷ bears_for (panel_of lvl_floor) 50 18
    ∷ adds_up (panel_of lvl_floor) 61035
    -- 15.0 mm: 75²·150 = 843,750 is less than 65²·200 = 845,000, and 76²·150 is more. With 7 mm in 20 min the effective depth grows by
    -- 0.76 + 0.35 = 1.11 mm/min; it fails as 11.3 mm no longer carry, from either face
    ∷ gives (record_refusal lvl_thin) 0
    ∷ gives (rate_of (panel_of lvl_thin)) 76
    ∷ bears (panel_of lvl_thin) 10
    ∷ failure_time (panel_of lvl_thin) 1130 111
    ∷ bears_for (panel_of lvl_thin) 10 10
    -- β by the whole thickness, from 10.0 mm on; CLT and two lamellae of 15.0 mm have the rate of their record
    ∷ gives (rate_of (lvl 0 (plate 100))) 92
    ∷ gives (rate_of (lvl 0 (plate 199))) 66
    ∷ gives (rate_of (lvl 0 (plate 200))) 65
    ∷ gives (rate_of (lvl 0 (lamella 1 150 ∷ lamella 1 150 ∷ []))) 65
    ∷ gives (rate_of (bare 0 50 0 (plate 150))) 50
    -- one lamella of thickness h carries M up to 22·f·h²/120,000, of CLT up to 23·f·h²/120,000: at 20.0 mm 1,760 and 1,840
    ∷ gives (panel_refusal (lvl 1760 (plate 200))) 0
    ∷ gives (panel_refusal (lvl 1761 (plate 200))) 13
    ∷ gives (panel_refusal (bare 0 65 1840 (plate 200))) 0
    ∷ gives (panel_refusal (bare 0 65 1841 (plate 200))) 13
    -- behind boards the rate is that of the thin panel too. A 9.0: t_ch = t_f = 11.2 min, the first run ends at 2·t_f: 2·0.76·11.2 = 17.024 mm
    ∷ in_phase (lvl_with 65 0 0 (One (board_of letter_a 90)) (plate 150)) 12 1 (Fast 1702400)
    ∷ gives (char_at (lvl_with 65 0 0 (One (board_of letter_a 90)) (plate 150)) 12 1) (hundred_thousandths 121600 1)
    -- F 12.5 that fails at 30 min: k2·β from 21 min on, 0.775·0.76·9 = 5.301 mm
    ∷ gives (char_at (lvl_with 65 0 30000 (One (board125 letter_f)) (plate 150)) 30 1) (hundred_thousandths 530100 1)
    -- all lamellae along and rate byte 65: 17 after 11, before 12 and 13; line 4 sees the byte
    ∷ gives (panel_refusal (lvl 0 (lamella 1 300 ∷ lamella 0 300 ∷ []))) 17
    ∷ gives (panel_refusal (lvl 0 (lamella 0 300 ∷ []))) 17
    ∷ gives (panel_refusal (lvl 1000000 (lamella 0 300 ∷ lamella 1 300 ∷ []))) 17
    ∷ gives (panel_refusal (lvl_with 66 0 0 Unclad (plate 300))) 17
    ∷ gives (panel_refusal (lvl_with 76 0 0 Unclad (plate 150))) 17
    ∷ gives (panel_refusal (lvl_with 40 0 0 Unclad (lamella 0 300 ∷ []))) 4
    ∷ gives (panel_refusal (lvl 0 (lamella 0 99 ∷ []))) 11
    ∷ gives (panel_refusal (panel_with 3 65 0 240 0 0 Unclad (plate 300))) 3
    -- 20.0 mm: the effective depth grows by 0.65 + 0.35 = 1.00 mm/min and fails as 15.2 mm no longer carry. With a tenth off β is 66, and 15.1
    -- mm are reached after 15.1/1.01 min, below 15
    ∷ planed lvl_20 15 19 15 (Some (off 1 1))
    ∷ failure_time lvl_20 76 5
    ∷ gives (rate_of (cut_panel lvl_20 (off 1 1))) 66
    ∷ failure_time (cut_panel lvl_20 (off 1 1)) 1510 101
    ∷ []

-- "G with M 3,000 prints exactly", with the line RS of document 02, 5/14
abbrev pub g_card : List ℕ
g_card =
    codes
    "CARD 1\nCHAR 30 19500 265\nCHAR 60 39000 460\nCHAR 90 58500 655\nCHAR 120 78000 850\nR 103 90\nRS 103:41\nEI 95 90\nREI 90\n"

unfoldable pub card_rows : List Case
card_rows =
    -- document 01, the printed card
    prints g_bytes g_card
    -- document 02, 9/14: "Zero bytes now mean panel G .. and give its card. One to 20 bytes still meet refusal 1"
    ∷ prints [] g_card
    ∷ gives (record_refusal (0 ∷ [])) 1
    ∷ gives (record_refusal (replicate 20 0)) 1
    ∷ []

abbrev pub further : List Case
further = charring_rows ++ (wood_board_rows ++ (fire_rows ++ (first_run_rows ++ (rating_rows ++ (cut_rows ++ (lvl_rows ++ card_rows))))))

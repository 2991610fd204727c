-- Document 01, "Panels worked through": "The starred are proved." One row for each number of a starred line.
use Rattle.std.specs.Prelude.{List, [], ◌∷◌}
use Rattle.panel.specs.declared.Cladding.TheVariants.{One, Two}
use Rattle.panel.specs.Boards.{letter_a, letter_f, charring_start}
use Rattle.panel.specs.Worked.{g, g_falling, recovers, one_behind_a, three_behind_a, board125}
use Rattle.section.specs.Tests.{depth_passes}
use Rattle.refusals.specs.Refusals.{panel_refusal}
use Rattle.charring.specs.Depths.{char_at}
use Rattle.panel.specs.declared.Material.TheVariants.{Gypsum, Wood}
use Rattle.basic_times.specs.declared.Role.TheVariants.{Protection, Insulation}
use Rattle.cases.specs.Cases.{Case, gives, bears, failure_time, basic, adds_up, passing, hundredths}

unfoldable pub starred : List Case
starred =
    -- "One board 12.5: t_ch 21,000; wide gap 12,000."
    gives (charring_start 0 (One (board125 letter_a))) 21000
    ∷ gives (charring_start 1 (One (board125 letter_a))) 12000
    -- "Two F 12.5: 49,000."
    ∷ gives (charring_start 0 (Two (board125 letter_f) (board125 letter_f))) 49000
    -- "Type A 9.0, β 65, one lamella 60: 14.56 mm at 22.4 min. Type A 12.5: 37.85 mm at 60 min."
    ∷ gives (char_at (one_behind_a 90) 224 10) (hundredths 1456 10)
    ∷ gives (char_at (one_behind_a 125) 60 1) (hundredths 3785 1)
    -- "G with falling bond: 48.0 mm at 60 min, 72.0 at 90."
    ∷ gives (char_at (g_falling 3000) 60 1) (hundredths 4800 1)
    ∷ gives (char_at (g_falling 3000) 90 1) (hundredths 7200 1)
    -- "G, M 43,056: depth 0 passes; 43,057: refusal 13."
    ∷ gives (passing (depth_passes (g 43056) 0)) 1
    ∷ gives (panel_refusal (g 43057)) 13
    -- "G, M 3,000: R 103 (exact 6,740/65); bond falling: 84. M 0: 138."
    ∷ bears (g 3000) 103
    ∷ failure_time (g 3000) 6740 65
    ∷ bears (g_falling 3000) 84
    ∷ bears (g 0) 138
    -- "10 along, 60 across, 60 along, f 240, M 15,000: depth 7.0 mm does not pass, 7.1 does."
    ∷ gives (passing (depth_passes recovers 70)) 0
    ∷ gives (passing (depth_passes recovers 71)) 1
    -- "Gypsum 15.0: ..; wood 20.0: ..; wood 40.0: ..", in thousandths: document 02, 8/14, "gypsum 15.0 becomes 30000 and 24000, and the
    -- starred times and sums are worked again"
    ∷ basic Protection Gypsum 150 30000
    ∷ basic Insulation Gypsum 150 24000
    ∷ basic Protection Wood 200 30000
    ∷ basic Insulation Wood 200 19000
    ∷ basic Protection Wood 400 64306
    ∷ basic Insulation Wood 400 50141
    -- "G: EI sum ..", as well
    ∷ adds_up (g 3000) 95079
    -- "Type A 12.5, coefficient 100, three lamellae 20: ..", as well
    ∷ adds_up three_behind_a 59345
    ∷ []

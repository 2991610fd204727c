-- The ratings on a card, sentence by sentence, as demand 3 is stated: EI, and the three grades. R is demand 3's.
use Rattle.std.specs.Prelude.{ℕ, ◌≡◌, min, List}
use Rattle.panel.specs.declared.Panel.{Panel}
use Rattle.panel.specs.Faces.{fires, least_of}
use Rattle.layers.specs.Layers.{ei_minute}
use Rattle.grades.specs.Grades.{IsGradeOf}
use Rattle.ratings.specs.Answers.{rei_grade}
use Rattle.text_lines.specs.Text.{line_feed, after, first_number, second_number}
use Rattle.demands.specs.EveryCard.{OfEveryCard}
use Rattle.demands.specs.Demand3.{from_load, printed_minute}
use Rattle.demands.specs.Seconds.{from_time}

-- the grade on the card's line R, in its second field
abbrev pub load_grade_on_card : List ℕ → ℕ
load_grade_on_card text = second_number (from_load text)

-- the two numbers on the line EI, which comes after seven line feeds
abbrev pub from_ei : List ℕ → List ℕ
from_ei text = after line_feed (from_time text)

abbrev pub ei_on_card : List ℕ → ℕ
ei_on_card text = first_number (from_ei text)

abbrev pub ei_grade_on_card : List ℕ → ℕ
ei_grade_on_card text = second_number (from_ei text)

-- and the one on the line REI, after eight
abbrev pub rei_on_card : List ℕ → ℕ
rei_on_card text = first_number (after line_feed (from_ei text))

-- what is asked of a panel and the text of its card
pub record RatingsOf (p : Panel) (text : List ℕ) : Type 0 where
  -- "For 2 the printed minutes are the lesser of the two fires": EI is the least of the fires' own
  pub ei : ei_on_card text ≡ least_of ei_minute (fires p)
  -- "R and EI the minute and grade": the grade is that of the minute it stands beside
  pub load_grade : IsGradeOf (printed_minute text) (load_grade_on_card text)
  pub ei_grade : IsGradeOf (ei_on_card text) (ei_grade_on_card text)
  -- "REI takes the lower of R and EI": of the two minutes that stand on the card
  pub rei : IsGradeOf (min (printed_minute text) (ei_on_card text)) (rei_on_card text)
  -- and it is the REI grade that planing goes by
  pub planed : rei_on_card text ≡ (rei_grade p).minutes

-- of every accepted record, as demand 3 is
abbrev pub PrintedRatings : Type 0
PrintedRatings = OfEveryCard RatingsOf

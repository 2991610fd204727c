-- Document 02, 8/14, of what is printed: "Rounding down at every layer costs nine-lamella panels part of a minute. Basic times and layer times
-- are kept in thousandths of a minute". Against hundredths no panel loses by it, in the sum, in EI, and in either grade.
use Rattle.std.specs.Prelude.{ℕ, ◌*◌, ◌≤◌, List}
use Rattle.panel.specs.declared.Panel.{Panel}
use Rattle.panel.specs.Faces.{fires, InEvery, least_of}
use Rattle.layers.specs.Layers.{ei_sum_in, ei_sum, ei_minute_in}
use Rattle.grades.specs.Grades.{grade_of, rei_of}
use Rattle.demands.specs.EveryCard.{OfEveryCard}
use Rattle.demands.specs.Demand3.{printed_minute}
use Rattle.demands.specs.Ratings.{ei_on_card, ei_grade_on_card, rei_on_card}

-- what is asked of a panel and the text of its card: beside layer times that are kept in hundredths of a minute, by the same definitions
pub record LosesNothingOf (p : Panel) (text : List ℕ) : Type 0 where
  -- "Rounding down at every layer costs .. part of a minute": in each fire the sum in thousandths is no less than ten times that in
  -- hundredths
  pub sum : InEvery (λ fire. 10 * ei_sum_in 100 fire ≤ ei_sum fire) (fires p)
  -- so no EI minute is lost
  pub ei : least_of (ei_minute_in 100) (fires p) ≤ ei_on_card text
  -- and no grade, of EI
  pub ei_grade : (grade_of (least_of (ei_minute_in 100) (fires p))).minutes ≤ ei_grade_on_card text
  -- or REI
  pub rei : (rei_of (printed_minute text) (least_of (ei_minute_in 100) (fires p))).minutes ≤ rei_on_card text

-- of every accepted record, as demand 3 is
abbrev pub FinerTimes : Type 0
FinerTimes = OfEveryCard LosesNothingOf

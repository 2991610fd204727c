-- Document 01, "Layer times": "Grades, constants of the grade type: 10, 15, 20, 30, 45, 60, 90, 120, 180, 240, 360; the greatest
-- not above the minute, else 0. REI takes the lower of R and EI."
use Rattle.std.specs.Prelude.{ℕ, ◌≤◌, ◌≡◌, min, max, List, [], ◌∷◌, ◌⊎◌, leb}
use mathlib.Core.List.{Memᴰ}
use Rattle.numbers.specs.Choice.{pick}
use Rattle.grades.specs.declared.Grade.{Grade}

abbrev pub grades : List ℕ
grades = 10 ∷ 15 ∷ 20 ∷ 30 ∷ 45 ∷ 60 ∷ 90 ∷ 120 ∷ 180 ∷ 240 ∷ 360 ∷ []

-- the greatest number of a list that is not above m, else 0
unfoldable pub greatest_to : ℕ → List ℕ → ℕ
greatest_to m [] = 0
greatest_to m (g ∷ gs) = max (pick (leb g m) g 0) (greatest_to m gs)

-- the grade of a minute
abbrev pub grade_of : ℕ → Grade
grade_of minute = record { minutes = greatest_to minute grades }

-- what it is for a number to be the grade of a minute
pub record IsGradeOf (minute grade : ℕ) : Type 0 where
  -- it is one of 10, 15, .., 360, or 0
  pub listed : (grade ≡ 0) ⊎ Memᴰ grade grades
  -- "the greatest not above the minute, else 0"
  pub not_above : grade ≤ minute
  pub greatest : (other : ℕ) → Memᴰ other grades → other ≤ minute → other ≤ grade

-- the grade of a load minute and an EI minute
abbrev pub rei_of : ℕ → ℕ → Grade
rei_of r ei = grade_of (min r ei)

-- The grades of a panel, by document 01's number: what the open calls of this crate answer.
use Rattle.std.specs.Prelude.{ℕ, Result}
use Rattle.panel.specs.declared.Panel.{Panel}
use Rattle.refusals.specs.Lines.{unless_refused}
use Rattle.refusals.specs.Refusals.{panel_refusal}
use Rattle.layers.specs.Layers.{printed_ei}
use Rattle.grades.specs.declared.Grade.{Grade}
use Rattle.grades.specs.Grades.{grade_of, rei_of}
use Rattle.load.specs.LoadMinute.{printed_load}

-- the grades of an accepted panel go by the printed minutes: of R, of EI, and "REI takes the lower of R and EI"
abbrev pub load_grade : Panel → Grade
load_grade p = grade_of (printed_load p)

abbrev pub ei_grade : Panel → Grade
ei_grade p = grade_of (printed_ei p)

abbrev pub rei_grade : Panel → Grade
rei_grade p = rei_of (printed_load p) (printed_ei p)

-- a grade, or the refusal
unfoldable pub graded : (Panel → Grade) → Panel → Result Grade ℕ
graded grade p = unless_refused (panel_refusal p) (grade p)

-- `grades::Grade::of` meets its contract: the first of the grades from the greatest down.
-- Assumes nothing.
use mathlib.Core.List.{reverse}
use mathlib.Core.Path.{ap, ◌∙◌}
use Rattle.grades.proofs.Falling.{grade, first_greatest, greatest_reverse}
use Rattle.grades.specs.Grades.{grades, grade_of}
use Rattle.std.specs.Option.{unwrap_or}
use Rattle.grades.proofs.Grade.of.Goals as goal

pub returns : goal.returns
returns c =
    c.unwrap_or.ensures ∙ ap (λ o. unwrap_or o (grade 0)) c.first_to.ensures
    ∙ first_greatest c.number.result 360 (reverse grades) tt ∙ ap grade (greatest_reverse c.number.result grades)
    ∙ ap grade_of c.number.ensures.number

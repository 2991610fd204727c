-- What the open calls of this crate answer, by document 01's number: "a bare minute above 360 meets 15".
use Rattle.std.specs.Prelude.{ℕ, Result, ◌||◌}
use Rattle.grades.specs.declared.Grade.{Grade}
use Rattle.numbers.specs.Choice.{pick}
use Rattle.refusals.specs.Lines.{unless_refused}
use Rattle.refusals.specs.Causes.{bad_minute}
use Rattle.grades.specs.Grades.{grade_of, rei_of}

abbrev pub grade_answer : ℕ → Result Grade ℕ
grade_answer minute = unless_refused (pick (bad_minute minute) 15 0) (grade_of minute)

abbrev pub rei_answer : ℕ → ℕ → Result Grade ℕ
rei_answer r ei = unless_refused (pick (bad_minute r || bad_minute ei) 15 0) (rei_of r ei)

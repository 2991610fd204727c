-- The least cut of the panel that stands in a record, and as one number, for programs in C.
use Rattle.std.specs.Prelude.{ℕ, ◌+◌, ◌*◌, List, ℤ, pos, neg_ℤ, Option, Some, None, Result, Ok, Err}
use Rattle.refusals.specs.Lines.{unless_refused}
use Rattle.planing.specs.declared.Cut.{Cut}
use Rattle.record.specs.Layouts.{panel_of}
use Rattle.record.specs.Refusals.{record_refusal}
use Rattle.planing.specs.Answers.{planing_of}

-- a record is refused by its own lines
unfoldable pub record_planing : List ℕ → Result (Option Cut) ℕ
record_planing b = unless_refused (record_refusal b) (planing_of (panel_of b))

-- 1,000 times the lamella's place and the tenths of mm, 0 where no cut lowers the grade, or minus the refusal's number
abbrev pub exported_cut : Result (Option Cut) ℕ → ℤ
exported_cut (Ok (Some c)) = pos (1000 * c.place + c.tenths)
exported_cut (Ok None) = pos 0
exported_cut (Err n) = neg_ℤ (pos n)

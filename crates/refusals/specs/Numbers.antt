-- The papers' numbers of the refusals that the code names.
use Rattle.std.specs.Prelude.{ℕ, Bool, true, false, Result, Ok, Err}
use Rattle.refusals.specs.declared.refusal.Refusal.{Refusal}
use Rattle.refusals.specs.declared.refusal.Refusal.TheVariants.{
  Length,
  Version,
  Face,
  BondOrGap,
  Rate,
  Load,
  BoardCount,
  BoardTypes,
  Boards,
  FailureTime,
  LamellaCount,
  Lamellae,
  Lvl,
  NoneAlong,
  Section,
  Space,
  Minute,
}

-- the line's number in documents 01 and 02
abbrev pub line_number : Refusal → ℕ
line_number Length = 1
line_number Version = 2
line_number Face = 16
line_number BondOrGap = 3
line_number Rate = 4
line_number Load = 5
line_number BoardCount = 6
line_number BoardTypes = 7
line_number Boards = 8
line_number FailureTime = 9
line_number LamellaCount = 10
line_number Lamellae = 11
line_number Lvl = 17
line_number NoneAlong = 12
line_number Section = 13
line_number Space = 14
line_number Minute = 15

-- what a call answers, with the refusal's number in place of its name
abbrev pub by_number : {A : Type 0} → Result A Refusal → Result A ℕ
by_number (Ok value) = Ok value
by_number (Err refusal) = Err (line_number refusal)

-- nothing is answered but whether a line's cause fits
abbrev pub refused_if : Bool → Refusal → Result Unit Refusal
refused_if true refusal = Err refusal
refused_if false refusal = Ok tt

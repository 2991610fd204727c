-- Document 01, "Where a record is turned back": the whole table for a record, and for the writer.
use Rattle.std.specs.Prelude.{ℕ, List, [], ◌∷◌, ◌++◌, Bool, not, ◌||◌, length, get_or, eqb, ltb}
use Rattle.numbers.specs.Choice.{outside}
use Rattle.panel.specs.declared.Panel.{Panel}
use Rattle.refusals.specs.Lines.{Line, line, refusal}
use Rattle.refusals.specs.Causes.{bad_space}
use Rattle.refusals.specs.declared.ByteFaults.{ByteFaults}
use Rattle.refusals.specs.Refusals.{table_lines, panel_lines}
use Rattle.record.specs.Layouts.{length_with, shortest, longest, version_of, front_of, count_of_boards, count_of_lamellae, panel_in, record_length}
use Rattle.record.specs.Taken.{taken_for}

-- 1, length: "fewer than 21 or more than 54", for either version, "or length not the bytes given"
abbrev pub bad_length : List ℕ → Bool
bad_length b = outside shortest longest (length b) || not (eqb (get_or (front_of b) 0 0) (length b))

-- 6, board count: "above 2, or record shorter than 21 + 4c"; "for version 2 lines 6 and 10 count the byte"
abbrev pub bad_board_count : List ℕ → Bool
bad_board_count b = ltb 2 (count_of_boards b) || ltb (length b) (length_with (version_of b) (count_of_boards b) 1)

-- 10, lamella count: "or length not 18 + 4c + 3n"
abbrev pub bad_whole : List ℕ → Bool
bad_whole b = not (eqb (length b) (length_with (version_of b) (count_of_boards b) (count_of_lamellae b)))

-- what the bytes b say beside the panel that stands in them
abbrev pub byte_faults : List ℕ → ByteFaults
byte_faults b = record { length = bad_length b; board_count = bad_board_count b; lamella_count = bad_whole b }

-- the whole table, of bytes as they are
abbrev pub lines_in : List ℕ → List Line
lines_in b = table_lines (byte_faults b) (panel_in b)

-- of a record it is judged on what its bytes are taken for
abbrev pub record_lines : List ℕ → List Line
record_lines b = lines_in (taken_for b)

-- "A record is accepted when no line about the record itself fits": refusal 0
unfoldable pub record_refusal : List ℕ → ℕ
record_refusal b = refusal (record_lines b)

-- 14, lent space: "fewer bytes than the record .. written"
abbrev pub short_for : Panel → List ℕ → Bool
short_for p space = bad_space (record_length p) (length space)

-- "The writer checks lines 3 to 13 alike, then 14"; 2 and 16 before them
unfoldable pub write_refusal : Panel → List ℕ → ℕ
write_refusal p space = refusal (panel_lines p ++ (line 14 (short_for p space) ∷ []))

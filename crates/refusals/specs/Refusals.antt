-- Document 01, "Where a record is turned back", with lines 16 and 17 of document 02: the table of a panel and of the bytes in which it may
-- stand. Lines 14 and 15 are about the call.
use Rattle.std.specs.Prelude.{ℕ, List, [], ◌∷◌, false, ◌||◌}
use Rattle.panel.specs.declared.Panel.{Panel}
use Rattle.refusals.specs.declared.ByteFaults.{ByteFaults}
use Rattle.refusals.specs.Lines.{Line, line, refusal, down_to}
use Rattle.refusals.specs.Causes.{
  bad_version,
  bad_face,
  bad_bond_or_gap,
  bad_rate,
  bad_load,
  bad_types,
  bad_boards,
  bad_failure_time,
  bad_count,
  bad_lamellae,
  bad_lvl,
  none_along,
  bad_section,
}

-- a panel alone has no bytes: of lines 1 and 6 nothing is left for it, and of line 10 the count
abbrev pub no_bytes : ByteFaults
no_bytes = record { length = false; board_count = false; lamella_count = false }

-- the table, "Checked from top to bottom"; 16 is "checked after the version", 17 "after the lamellae, before 12"
abbrev pub table_lines : ByteFaults → Panel → List Line
table_lines f p =
    line 1 f.length  -- length
    ∷ line 2 (bad_version p)  -- version
    ∷ line 16 (bad_face p)  -- face
    ∷ line 3 (bad_bond_or_gap p)  -- bond, gap
    ∷ line 4 (bad_rate p)  -- rate
    ∷ line 5 (bad_load p)  -- strength, moment
    ∷ line 6 f.board_count  -- board count
    ∷ line 7 (bad_types p.cladding)  -- board types
    ∷ line 8 (bad_boards p.cladding)  -- board numbers
    ∷ line 9 (bad_failure_time p)  -- failure time
    ∷ line 10 (f.lamella_count || bad_count p.count)  -- lamella count
    ∷ line 11 (bad_lamellae p)  -- lamellae
    ∷ line 17 (bad_lvl p)  -- LVL
    ∷ line 12 (none_along p)  -- lamellae
    ∷ line 13 (bad_section p)  -- section
    ∷ []

-- "The writer checks lines 3 to 13 alike .. so does every other call that is given a panel"; they "now check line 2 and 16 before line 3"
abbrev pub panel_lines : Panel → List Line
panel_lines p = table_lines no_bytes p

-- 0: the panel is accepted
unfoldable pub panel_refusal : Panel → ℕ
panel_refusal p = refusal (panel_lines p)

-- the same by the lines above 13 alone: where it is 0 depth 0 may still fail, and nothing else
unfoldable pub refusal_before_section : Panel → ℕ
refusal_before_section p = refusal (down_to 12 (panel_lines p))

-- What the open calls of this crate answer, by document 01's number.
use Rattle.std.specs.Prelude.{ℕ, Bool, Result}
use Rattle.panel.specs.declared.Panel.{Panel}
use Rattle.panel.specs.Faces.{shown}
use Rattle.section.specs.declared.Section.{Section}
use Rattle.section.specs.Tests.{section_at, depth_passes}
use Rattle.numbers.specs.Choice.{pick}
use Rattle.refusals.specs.Causes.{bad_minute}
use Rattle.refusals.specs.Lines.{unless_refused}
use Rattle.refusals.specs.Refusals.{panel_refusal}

-- that no line refuses a panel, or the refusal
unfoldable pub panel_check : Panel → Result Unit ℕ
panel_check p = unless_refused (panel_refusal p) tt

-- an accepted panel, or the refusal
unfoldable pub accepted_answer : Panel → Result Panel ℕ
accepted_answer p = unless_refused (panel_refusal p) p

-- a minute, or line 15
abbrev pub minute_answer : ℕ → Result ℕ ℕ
minute_answer minute = unless_refused (pick (bad_minute minute) 15 0) minute

-- the section at a depth, with whether the depth passes, in the fire that is shown; or the refusal
unfoldable pub section_answer : Panel → ℕ → Result (Section × Bool) ℕ
section_answer p depth = unless_refused (panel_refusal p) (section_at (shown p) depth, depth_passes (shown p) depth)

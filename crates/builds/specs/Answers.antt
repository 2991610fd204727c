-- What the open call of this crate answers, by document 01's number.
use Rattle.std.specs.Prelude.{ℕ, Bool, Result, Err}
use Rattle.panel.specs.declared.Panel.{Panel}
use Rattle.refusals.specs.Lines.{answer, unless_refused}
use Rattle.refusals.specs.Refusals.{panel_refusal}
use Rattle.builds.specs.Builds.{same_build}

-- two panels compared by a test. "Of two panels the first is checked before the second."
unfoldable pub compared : (Panel → Panel → Bool) → Panel → Panel → Result Bool ℕ
compared same a b = answer (panel_refusal a) Err (unless_refused (panel_refusal b) (same a b))

-- whether two panels are the same build
abbrev pub build_answer : Panel → Panel → Result Bool ℕ
build_answer a b = compared same_build a b

-- What the open calls of this crate answer, by document 01's number, and what the depth table leaves in its lent space. Depths
-- and phases are those of the fire that is shown.
use Rattle.std.specs.Prelude.{ℕ, ◌≡◌, suc, List, [], ◌∷◌, ◌++◌, length, drop, Result}
use Rattle.charring.specs.declared.CharringValues.{CharringValues}
use Rattle.phases.specs.declared.Phase.{Phase}
use Rattle.numbers.specs.Firsts.{firsts}
use Rattle.panel.specs.declared.Panel.{Panel}
use Rattle.panel.specs.Faces.{shown}
use Rattle.refusals.specs.Lines.{line, refusal, answer, unless_refused}
use Rattle.refusals.specs.Causes.{last_minute, bad_space}
use Rattle.refusals.specs.Refusals.{panel_lines}
use Rattle.limits.specs.Asked.{minute_refusal}
use Rattle.charring.specs.Depths.{micrometres_at, tenths_at}
use Rattle.phases.specs.Phases.{phase_at}

-- the only value that a relation, as that of a closure's calls, allows of the fire of a panel at a minute
abbrev pub GivesOnly : {A : Type 0} → (CharringValues → ℕ → A → Type 0) → Panel → ℕ → A → Type 0
GivesOnly {A} gives p minute value = (fire : CharringValues) (given : A) → fire.panel ≡ p → gives fire minute given → given ≡ value

-- the phase at a whole minute
unfoldable pub phase_answer : Panel → ℕ → Result Phase ℕ
phase_answer p minute = unless_refused (minute_refusal p minute) (phase_at (shown p) minute 1)

-- the char depth at a whole minute, micrometres, rounded up
unfoldable pub char_answer : Panel → ℕ → Result ℕ ℕ
char_answer p minute = unless_refused (minute_refusal p minute) (micrometres_at (shown p) minute 1)

-- the effective depth at a whole minute, tenths of mm, rounded up
unfoldable pub effective_answer : Panel → ℕ → Result ℕ ℕ
effective_answer p minute = unless_refused (minute_refusal p minute) (tenths_at (shown p) minute 1)

-- "The depth table has one 32-bit number for each minute 0 to 360: the depth in micrometres, rounded up."
abbrev pub table_length : ℕ
table_length = suc last_minute

unfoldable pub depth_table : Panel → List ℕ
depth_table p = firsts (λ (minute : ℕ). micrometres_at p minute 1) table_length

-- the panel's lines, then 14: "fewer than 361 depths"
unfoldable pub table_refusal : Panel → List ℕ → ℕ
table_refusal p space = refusal (panel_lines p ++ (line 14 (bad_space table_length (length space)) ∷ []))

unfoldable pub table_answer : Panel → List ℕ → Result Unit ℕ
table_answer p space = unless_refused (table_refusal p space) tt

-- "Longer lent space stays unchanged past entry 360."
unfoldable pub table_after : Panel → List ℕ → List ℕ
table_after p space = answer (table_refusal p space) (λ (n : ℕ). space) (depth_table (shown p) ++ drop table_length space)

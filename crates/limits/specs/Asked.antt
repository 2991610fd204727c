-- What a call refuses that is given a panel and a minute: document 01's lines of the panel, then line 15.
use Rattle.std.specs.Prelude.{ℕ, [], ◌∷◌, ◌++◌, Result}
use Rattle.panel.specs.declared.Panel.{Panel}
use Rattle.refusals.specs.Lines.{line, refusal, unless_refused}
use Rattle.refusals.specs.Causes.{bad_minute}
use Rattle.refusals.specs.Refusals.{panel_lines}

-- the panel's lines, then 15: "asked or wanted minute above 360"
unfoldable pub minute_refusal : Panel → ℕ → ℕ
minute_refusal p minute = refusal (panel_lines p ++ (line 15 (bad_minute minute) ∷ []))

-- a panel that no line refuses, asked for a minute
unfoldable pub asked_answer : Panel → ℕ → Result Panel ℕ
asked_answer p minute = unless_refused (minute_refusal p minute) p

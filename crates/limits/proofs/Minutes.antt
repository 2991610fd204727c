-- A minute that a panel is asked for: the panel's lines, then line 15.
use Prim.Native.Nat.{ℕ, ◌≤◌}
use mathlib.Core.Path.{◌≡◌, refl, sym, ap}
use mathlib.Core.List.{List, [], ◌∷◌, ◌++◌}
use lib.Dec.{ltb}
use borrow.Author.Tests.{ltb-false}
use Rattle.panel.specs.declared.Panel.{Panel}
use Rattle.panel.specs.Lamellae.{SameUsed}
use Rattle.refusals.specs.Lines.{Line, line, refusal, unless_refused}
use Rattle.refusals.specs.Refusals.{panel_lines, panel_refusal}
use Rattle.limits.specs.Answers.{minute_answer}
use Rattle.limits.specs.Asked.{minute_refusal}
use Rattle.refusals.proofs.FirstLine.{cause_none, left_by_table, accepted_by_both}
use Rattle.refusals.proofs.Unused.{lines_unused}

-- line 15 of a minute
abbrev pub late : ℕ → List Line
late minute = line 15 (ltb 360 minute) ∷ []

-- of an accepted panel the minute's own line decides
pub minute_decides : (p : Panel) (minute : ℕ) → panel_refusal p ≡ 0 → minute_answer minute ≡ unless_refused (minute_refusal p minute) minute
unfolding minute_refusal panel_refusal
minute_decides p minute e =
    ap (λ (n : ℕ). unless_refused n minute) (left_by_table (panel_lines p) (late minute) tt (sym e) refl refl)

-- no refusal: the panel is accepted and the minute is asked for
pub minute_taken : (p : Panel) (minute : ℕ) → minute_refusal p minute ≡ 0 → (panel_refusal p ≡ 0) × (minute ≤ 360)
unfolding minute_refusal panel_refusal
minute_taken p minute e =
    let both = accepted_by_both (panel_lines p) (late minute) tt e in
    (both.0, ltb-false 360 minute (cause_none (late minute) tt both.1 15))

-- unused places do not matter
pub minute_refusal_same : (p q : Panel) → SameUsed p q → (minute : ℕ) → minute_refusal p minute ≡ minute_refusal q minute
unfolding minute_refusal
minute_refusal_same p q h minute = ap (λ (ls : List Line). refusal (ls ++ late minute)) (lines_unused p q h)

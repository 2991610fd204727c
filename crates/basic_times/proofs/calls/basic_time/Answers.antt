-- `basic_times::calls::basic_time` meets its contract: the test decides between the refusal and the table. Assumes nothing.
use Rattle.std.proofs.Common.{◌≡◌, ℕ, Bool, true, false, Result, Ok, Err, refl, ap, ◌∙◌}
use Rattle.basic_times.specs.Answers.{bare_line, time_answer}
use Rattle.basic_times.specs.Rules.{basic_time}
use Rattle.refusals.proofs.FirstLine.{handed}
use Rattle.refusals.specs.Numbers.{line_number, by_number, refused_if}
use Rattle.refusals.specs.declared.refusal.Refusal.{Refusal}
use Rattle.panel.specs.Materials.{bad_thickness}
use Rattle.basic_times.proofs.calls.basic_time.Goals as goal

-- a line that may refuse, and the value where it does not
decided :
    (bad : Bool) (line : Refusal) (n value : ℕ) {x : Result Unit Refusal} → x ≡ refused_if bad line → line_number line ≡ n
    → elim (by_number x) as (λ _. Result ℕ ℕ) [ Ok _ ↦ Ok value | Err k ↦ Err k ] ≡ elim bad [ true ↦ Err n | false ↦ Ok value ]
decided true line n value e l = rw e (ap Err l)
decided false line n value e l = rw e refl

pub returns-in_err-refuse_if : goal.returns-in_err-refuse_if
unfolding time_answer
returns-in_err-refuse_if c =
    let a = c.args in
    handed _ c.from_residual.result c.from_residual.ensures.1
    ∙ decided (bad_thickness a.m a.h) c.bare_line.result (bare_line a.m) (basic_time a.role a.m a.h)
    (rw c.bad_thickness.ensures at c.in_err-refuse_if.ensures) c.bare_line.ensures

pub returns : goal.returns
unfolding time_answer
returns c =
    let a = c.args in
    ap Ok c.time_at.ensures.0
    ∙ decided (bad_thickness a.m a.h) c.bare_line.result (bare_line a.m) (basic_time a.role a.m a.h)
    (rw c.bad_thickness.ensures at c.in_ok-refuse_if.ensures) c.bare_line.ensures

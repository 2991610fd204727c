-- `limits::check::Accepted::in_bytes` meets its contract: a panel is accepted where no line of the table fits. Assumes nothing.
use Rattle.std.proofs.Common.{refl, Ok}
use Rattle.refusals.proofs.PanelTable.{table_accepted}
use Rattle.refusals.proofs.FirstLine.{accepted_with, handed_on, goes_on}
use Rattle.refusals.specs.Lines.{refusal}
use Rattle.refusals.specs.Refusals.{table_lines}
use Rattle.limits.proofs.check.Accepted.in_bytes.Goals as goal

pub returns-in_err-check_table : goal.returns-in_err-check_table
returns-in_err-check_table c =
    let a = c.args in
    handed_on (refusal (table_lines a.f a.p)) tt (Ok a.p) _ c.from_residual.result c.from_residual.ensures.1 c.in_err-check_table.ensures

pub invariant_of-result : goal.invariant_of-result
invariant_of-result c = table_accepted c.args.f c.args.p (accepted_with c.in_ok-check_table.ensures).0

pub returns : goal.returns
returns c = goes_on (refusal (table_lines c.args.f c.args.p)) tt c.in_ok-check_table.ensures refl

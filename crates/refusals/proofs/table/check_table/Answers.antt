-- `refusals::table::check_table` meets its contract: lines 11 to 13 are worked out where the lines above them do not fit. Assumes nothing.
use Rattle.std.proofs.lemmas.Bool.{or_parts}
use Rattle.std.proofs.Common.{Ok, ◌∙◌}
use Rattle.refusals.proofs.FirstLine.{accepted_with, cause_none, handed_above, checked_below}
use Rattle.refusals.specs.Causes.{bad_count}
use Rattle.refusals.specs.Lines.{down_to, below}
use Rattle.refusals.specs.Refusals.{table_lines}
use Rattle.refusals.proofs.table.check_table.Goals as goal

pub returns-in_err-check_upper : goal.returns-in_err-check_upper
returns-in_err-check_upper c =
    let t = table_lines c.args.f c.args.p in
    handed_above (down_to 10 t) (below 10 t) tt (Ok tt) _ c.from_residual.result c.from_residual.ensures.1 c.in_err-check_upper.ensures

pub check_lower-requires : goal.check_lower-requires
check_lower-requires c =
    let a = c.args in
    let none = cause_none (down_to 10 (table_lines a.f a.p)) tt (accepted_with c.in_ok-check_upper.ensures).0 in
    (none 5, (or_parts a.f.lamella_count (bad_count a.p.count) (none 10)).1)

pub returns : goal.returns
returns c =
    let t = table_lines c.args.f c.args.p in
    c.check_lower.ensures ∙ checked_below (down_to 10 t) (below 10 t) tt (accepted_with c.in_ok-check_upper.ensures).0

-- `carried::carry::step_of` meets its contract: each branch is a case of the step. Assumes nothing.
use Prim.Native.Nat.{◌<◌}
use mathlib.Core.Path.{sym, ap, ◌∙◌}
use native.Mathlib.Omega.{arith}
use borrow.Author.Tests.{leb-true, leb-false}
use Rattle.carried.specs.Carried.{without}
use Rattle.carried.specs.Carrying.{HoldsPart}
use Rattle.carried.proofs.Carrying.{cuts_when, holds_tenth, step_moves, step_drops, step_stays}
use Rattle.carried.proofs.carry.step_of.Goals as goal
use Rattle.carried.proofs.carry.step_of.Goals.{Else-not-s-end}

-- past that, the sums have what lies from lo to the end of the lamella being cut
held : (c : Else-not-s-end) → (0 < c.args.s.n) × ((c.args.s.lo < c.args.end) × HoldsPart c.args.s c.args.end)
held c =
    let cut = cuts_when c.args.s c.args.end c.if-not-s-end.false in
    (cut.0, (cut.1, c.requires cut.0 cut.1))

pub returns-then-not-s-end : goal.returns-then-not-s-end
returns-then-not-s-end c =
    sym (step_stays c.args.s c.args.end _ c.if-not-s-end.true)

pub take_tenth-requires : goal.take_tenth-requires
take_tenth-requires c =
    let a = c.args in
    let h = held (goal.at.take_tenth-requires c).Else-not-s-end in
    let tenth = holds_tenth a.s a.end h.1.1 h.1.0 in
    record {
      lo_bound = tenth.within;
      le_n = (h.0, (omega (arith, tenth.p), omega (arith, tenth.q)));
    }

pub returns-then-is_enough : goal.returns-then-is_enough
returns-then-is_enough c =
    let a = c.args in
    let h = held (goal.at.returns-then-is_enough c).Else-not-s-end in
    c.take_tenth.ensures
    ∙ sym (step_moves a.s a.end _ h.0 h.1.0 (leb-true _ _ (sym c.is_enough.ensures ∙ c.if-is_enough.true)))

pub returns : goal.returns
returns c =
    let a = c.args in
    let h = held (goal.at.returns c).Else-not-s-end in
    c.take_off.ensures
    ∙ ap (without a.s (record { from = a.s.lo; to = a.end })) c.unwrap_or.ensures
    ∙ sym (step_drops a.s a.end _ h.0 h.1.0 (leb-false _ _ (sym c.is_enough.ensures ∙ c.if-is_enough.false)))

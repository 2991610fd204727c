-- `charring::lines::LinesIterator::next` meets its contract: a line is the end of a lamella that is not the last. Assumes nothing.
use Prim.Native.Nat.{ℕ, ◌+◌, ◌*◌}
use native.Mathlib.Omega.{arith}
use lib.ListN.{length}
use mathlib.Core.Path.{sym, ap, ◌∙◌}
use borrow.Author.Tests.{eqb-true, eqb-false}
use Rattle.charring.proofs.ByThickness.{none_left, one_more, thickness_more}
use Rattle.charring.proofs.lines.LinesIterator.next.Goals as goal

pub returns-in_err-first-clause-steps : goal.returns-in_err-first-clause-steps
returns-in_err-first-clause-steps c =
    let none = none_left c.args.self.now.top c.args.self.now.rest.now (omega (arith, c.in_err-first.ensures.cases)) in
    rw c.from_residual.ensures (none, none)

pub returns-then-is_empty-clause-steps : goal.returns-then-is_empty-clause-steps
returns-then-is_empty-clause-steps c =
    let none = none_left c.args.self.now.top c.args.self.now.rest.now (omega (arith, c.in_ok-first.ensures.cases.1, eqb-true (length c.in_ok-first.rest.now) 0 (sym c.is_empty.ensures ∙ c.if-is_empty.true))) in
    (none, none)

pub invariant_of-self : goal.invariant_of-self
invariant_of-self c =
    record { within = omega (arith, thickness_more c.in_ok-first.first.now c.args.self.now.rest.now c.in_ok-first.rest.now c.in_ok-first.ensures.cases.0) }

pub returns-clause-steps : goal.returns-clause-steps
returns-clause-steps c = (
  one_more c.args.self.now.top c.in_ok-first.first.now _ c.args.self.now.rest.now c.in_ok-first.rest.now
      (ap (λ (t : ℕ). c.args.self.now.top + 100000000 * t) c.from.ensures) c.in_ok-first.ensures.cases.0
      (omega (arith, eqb-false (length c.in_ok-first.rest.now) 0 (sym c.is_empty.ensures ∙ c.if-is_empty.false))),
  c.run_end.ensures.0,
)

pub returns-clause-goes : goal.returns-clause-goes
returns-clause-goes c =
    omega (
      arith,
      ap length (one_more c.args.self.now.top c.in_ok-first.first.now _ c.args.self.now.rest.now c.in_ok-first.rest.now
          (ap (λ (t : ℕ). c.args.self.now.top + 100000000 * t) c.from.ensures) c.in_ok-first.ensures.cases.0
          (omega (arith, eqb-false (length c.in_ok-first.rest.now) 0 (sym c.is_empty.ensures ∙ c.if-is_empty.false)))),
    )

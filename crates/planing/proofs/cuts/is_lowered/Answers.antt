-- `planing::cuts::is_lowered` meets its contract: neither R nor the grade need be worked out. Assumes nothing.
use Prim.Native.Nat.{◌≤◌, min}
use Rattle.layers.specs.Layers.{printed_ei}
use Rattle.refusals.specs.Causes.{last_minute}
use Rattle.planing.proofs.Lowering.{fails_lowered, lasting_accepted, lasting_by_ei}
use Rattle.panel.specs.declared.Panel.{Panel}
use lib.Dec.{ltb}
use mathlib.Core.Path.{sym, ap, ap₂, subst, ◌∙◌}
use Rattle.planing.proofs.cuts.is_lowered.Goals as goal
use Rattle.planing.proofs.cuts.is_lowered.Goals.{After-number-least}
use Rattle.numbers.proofs.Lesser.{below_up_to}

most : (c : After-number-least) → c.args.minutes ≤ last_minute
most c = subst (λ n. n ≤ last_minute) c.number-least.ensures.number c.number-least.ensures.most

pub returns-then-not-lasts : goal.returns-then-not-lasts
returns-then-not-lasts c =
    sym
    (fails_lowered c.args.minutes c.args.q (most (goal.at.returns-then-not-lasts c).After-number-least) c.requires.minutes_of_grade c.requires.q_value
    (sym c.lasts.ensures ∙ c.if-not-lasts.true))

pub known-requires : goal.known-requires
known-requires c =
    lasting_accepted c.args.minutes c.args.q (most (goal.at.known-requires c).After-number-least) c.requires.minutes_of_grade c.requires.q_value
    (sym c.lasts.ensures ∙ c.if-not-lasts.false)

pub returns : goal.returns
returns c =
    ap₂ ltb (c.number.ensures.number ∙ c.ei_minute_up_to.ensures ∙ ap (λ (q : Panel). min (printed_ei q) c.args.minutes) c.known.ensures) c.number-least.ensures.number
    ∙ below_up_to c.args.minutes (printed_ei c.args.q)
    ∙ sym
    (lasting_by_ei c.args.minutes c.args.q (most (goal.at.returns c).After-number-least) c.requires.minutes_of_grade c.requires.q_value
    (sym c.lasts.ensures ∙ c.if-not-lasts.false))

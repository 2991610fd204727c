-- `planing::search::least_cut` meets its contract: no smaller amount serves for any lamella. Assumes nothing.
use Rattle.planing.proofs.Searching.{NoneFor, none_for_zero, found_is, none_is}
use Rattle.planing.specs.Answers.{place_on, planing_of}
use mathlib.Core.Path.{◌≡◌, ap, subst, ◌∙◌}
use native.Mathlib.Omega.{arith}
use Rattle.planing.proofs.search.least_cut.Goals as goal

pub loop-tenths-init : goal.loop-tenths-init
loop-tenths-init c = λ k l. subst (NoneFor c.of-rated.result.panel) (let z : 0 ≡ k = omega arith in z) (none_for_zero c.of-rated.result.panel)

pub index_behind-requires : goal.index_behind-requires
index_behind-requires c = c.in-Some.ensures.1

pub returns-in-Some : goal.returns-in-Some
returns-in-Some c =
    let p = c.of-rated.result.panel in
    let first = c.in-Some.ensures in
    found_is p c.loop-tenths.tenths c.loop-tenths.invariant _ (omega (arith, c.loop-tenths-test.true)) (omega (arith, first.0, first.1))
    (c.index_behind.ensures.place ∙ ap (place_on p.face p.count) first.0)
    ∙ ap planing_of c.of-rated.ensures

pub returns : goal.returns
returns c =
    let end = c.loop-tenths.auto.tenths-end in
    none_is c.of-rated.result.panel c.loop-tenths.tenths c.loop-tenths.invariant (omega (arith, c.loop-tenths-test.false))
    ∙ ap planing_of c.of-rated.ensures

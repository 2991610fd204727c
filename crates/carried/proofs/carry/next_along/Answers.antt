-- `carried::carry::next_along` meets its contract. The invariant: what is sought is the same from the next lamella on.
use Prim.Native.Nat.{◌<◌}
use mathlib.Core.Path.{◌≡◌}
use native.Mathlib.Omega.{arith}
use borrow.Author.Rules.{rules}
use lib.ListN.{length, get_or, length-append}
use Rattle.panel.proofs.Lent.{next_lamella, no_lamella_left}
use Rattle.panel.specs.Lamellae.{lamella}
use Rattle.panel.specs.Lent.{lamellae_in}
use Rattle.carried.proofs.NextAlong.{sought_more, sought_fits, sought_found, sought_none}
use Rattle.carried.proofs.carry.next_along.Goals as goal
use Rattle.carried.proofs.carry.next_along.Goals.{In-Some}

turn : (c : In-Some) → (length c.loop-direction.yielded < length (lamellae_in c.args.lamellae))
    × (get_or (lamellae_in c.args.lamellae) (length c.loop-direction.yielded) (lamella 0 0) ≡ lamella c.in-Some.direction.now c.in-Some.thick.now)
turn c =
    let l = c.loop-direction in
    next_lamella c.args.lamellae l.yielded c.into_iter-direction-iterator.result l.direction-iterator c.next.new.self c.next.result
    (search rules) (search rules) l.yielded_by c.next.ensures.steps (c.in-Some.direction, c.in-Some.thick) c.in-Some.is

pub returns-then-direction-eq1 : goal.returns-then-direction-eq1
returns-then-direction-eq1 c =
    let here = turn (goal.at.returns-then-direction-eq1 c).In-Some in
    sought_found _ _ _ _ _ c.loop-direction.invariant here.0 here.1 c.if-direction-eq1.true

pub overflow_add-at : goal.overflow_add-at
overflow_add-at c =
    let here = turn (goal.at.overflow_add-at c).In-Some in
    omega (arith, sought_fits _ _ _ _ _ c.loop-direction.invariant here.0 here.1)

pub loop-direction-preserved : goal.loop-direction-preserved
loop-direction-preserved c =
    let here = turn (goal.at.loop-direction-preserved c).In-Some in
    simp length-append
    (rw c.from-at.ensures (sought_more _ _ _ _ _ c.loop-direction.invariant here.0 here.1 c.if-direction-eq1.false))

pub returns : goal.returns
returns c =
    let l = c.loop-direction in
    sought_none _ _ _ _ l.invariant
    (no_lamella_left c.args.lamellae l.yielded c.into_iter-direction-iterator.result l.direction-iterator c.next.new.self c.next.result
    (search rules) (search rules) l.yielded_by c.next.ensures.steps c.in-None.is)

-- `section::sums::section_in` meets its contract: s and top are the sums of the lamellae so far and where these end.
use Prim.Native.Nat.{◌<◌}
use mathlib.Core.Path.{◌≡◌}
use borrow.Author.Rules.{rules}
use lib.ListN.{length, get_or, length-append}
use Rattle.panel.proofs.Lent.{next_lamella, no_lamella_left}
use Rattle.panel.specs.Lamellae.{lamella}
use Rattle.panel.specs.Lent.{lamellae_in}
use Rattle.section.specs.Sections.{counted, section_of}
use Rattle.section.proofs.NothingCut.{remains}
use Rattle.section.proofs.Growing.{summed_start, summed_more, summed_fits, summed_all}
use Rattle.section.proofs.sums.section_in.Goals as goal
use Rattle.section.proofs.sums.section_in.Goals.{In-Some, In-None}

turn : (c : In-Some) → (length c.loop-direction.yielded < length (lamellae_in c.args.lamellae))
    × (get_or (lamellae_in c.args.lamellae) (length c.loop-direction.yielded) (lamella 0 0) ≡ lamella c.in-Some.direction.now c.in-Some.thick.now)
turn c =
    let l = c.loop-direction in
    next_lamella c.args.lamellae l.yielded c.into_iter-direction-iterator.result l.direction-iterator c.next.new.self c.next.result
    (search rules) (search rules) l.yielded_by c.next.ensures.steps (c.in-Some.direction, c.in-Some.thick) c.in-Some.is

pub loop-direction-init : goal.loop-direction-init
loop-direction-init c = summed_start _ _ _ _ c.at_face-sums.ensures.0 c.at_face-sums.ensures.1

pub with_lamella-sums-requires : goal.with_lamella-sums-requires
with_lamella-sums-requires c =
    let here = turn (goal.at.with_lamella-sums-requires c).In-Some in
    summed_fits _ _ _ _ _ _ c.loop-direction.invariant here.0 here.1 c.requires

pub loop-direction-preserved : goal.loop-direction-preserved
loop-direction-preserved c =
    let here = turn (goal.at.loop-direction-preserved c).In-Some in
    simp length-append
    (summed_more _ _ _ _ _ _ _ _ c.loop-direction.invariant here.0 here.1 c.with_lamella-sums.ensures.0 c.with_lamella-sums.ensures.1)

-- past the last lamella they are the section's
all : (c : In-None) → c.loop-direction.sums.section ≡ section_of (counted c.args.depth (lamellae_in c.args.lamellae))
all c =
    let l = c.loop-direction in
    summed_all _ _ _ _ _ l.invariant
    (no_lamella_left c.args.lamellae l.yielded c.into_iter-direction-iterator.result l.direction-iterator c.next.new.self c.next.result
    (search rules) (search rules) l.yielded_by c.next.ensures.steps c.in-None.is)

pub invariant_of-result : goal.invariant_of-result
invariant_of-result c =
    let ls = lamellae_in c.args.lamellae in
    let here = all (goal.at.invariant_of-result c).In-None in
    let both = remains c.args.depth ls c.requires here in
    record { bounds = both.0; uncut = both.1 }

pub returns : goal.returns
returns c = all (goal.at.returns c).In-None

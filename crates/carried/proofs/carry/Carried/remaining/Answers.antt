-- `carried::carry::Carried::remaining` meets its contract: what is carried is the section at its depth. Assumes nothing.
use Rattle.panel.specs.Lent.{lamellae_in}
use Rattle.section.proofs.NothingCut.{remains}
use Rattle.carried.proofs.carry.Carried.remaining.Goals as goal

pub invariant_of-result : goal.invariant_of-result
invariant_of-result c =
    let here = c.args.self in
    let both = remains here.depth (lamellae_in here.lamellae) here.short here.carried in
    record { bounds = both.0; uncut = both.1 }

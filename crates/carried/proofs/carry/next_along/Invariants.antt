-- `carried::carry::next_along` meets its contract. The invariant: what is sought is the same from the next lamella on. Assumes nothing.
use lib.ListN.{length}
use Rattle.panel.specs.Lent.{lamellae_in}
use Rattle.carried.proofs.NextAlong.{Sought}
use Rattle.carried.proofs.carry.next_along.Given as goal

abbrev pub invariant-loop-direction : goal.invariant-loop-direction
invariant-loop-direction l = Sought (lamellae_in l.lamellae) l.top (length l.yielded) l.at

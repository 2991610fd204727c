-- `section::sums::section_in` meets its contract. The loop's invariant: the sums are those of the lamellae so far, which end there. Assumes
-- nothing.
use lib.ListN.{length}
use Rattle.panel.specs.Lent.{lamellae_in}
use Rattle.section.proofs.Growing.{Summed}
use Rattle.section.proofs.sums.section_in.Given as goal

abbrev pub invariant-loop-direction : goal.invariant-loop-direction
invariant-loop-direction l = Summed (lamellae_in l.lamellae) l.depth (length l.yielded) l.sums.section l.sums.end

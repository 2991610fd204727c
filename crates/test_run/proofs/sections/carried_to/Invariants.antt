-- The section is carried along the panel's lamellae, and no depth lies past the last.
use Rattle.std.proofs.Common.{◌≡◌, ◌-◌, ◌≤◌}
use Rattle.panel.specs.Lamellae.{lamellae}
use Rattle.panel.specs.Lent.{lamellae_in}
use Rattle.test_run.proofs.sections.carried_to.Given as goal

abbrev pub invariant-loop-c : goal.invariant-loop-c
invariant-loop-c l = (lamellae_in l.c.lamellae ≡ lamellae l.fn.fire) × (l.c.depth ≤ l.depth)

abbrev pub decreases-loop-c : goal.decreases-loop-c
decreases-loop-c l = l.depth - l.c.depth

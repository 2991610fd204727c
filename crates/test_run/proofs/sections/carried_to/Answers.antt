-- A panel that no line refuses keeps what the carrying asks of its lamellae.
use Rattle.std.proofs.Common.{ap, ◌∙◌, arith}
use Rattle.carried.proofs.EitherFire.{accepted_lamellae}
use Rattle.panel.specs.Lamellae.{lamellae}
use Rattle.test_run.proofs.sections.carried_to.Goals as goal

pub start-c-requires : goal.start-c-requires
start-c-requires c = rw c.lamellae.ensures (accepted_lamellae c.panel-p.result c.panel-p.ensures.accepted)

pub loop-c-init : goal.loop-c-init
loop-c-init c = (c.start-c.ensures.along.0 ∙ c.lamellae.ensures ∙ ap lamellae c.panel-p.ensures.panel, omega (arith, c.start-c.ensures.along.1))

pub loop-c-preserved : goal.loop-c-preserved
loop-c-preserved c = (c.in-Some.ensures.along.0 ∙ c.loop-c.invariant.0, omega (arith, c.in-Some.ensures.along.1, c.loop-c-test.true))

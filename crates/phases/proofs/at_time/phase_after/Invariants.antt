-- `phases::at_time::phase_after` meets its contract. The loop's invariant: what will come out is unchanged. Assumes nothing.
use Prim.Native.Nat.{◌-◌, ◌*◌}
use mathlib.Core.Path.{◌≡◌}
use Rattle.charring.specs.Rates.{failure_of, plain_rate}
use Rattle.charring.specs.Way.{way}
use Rattle.phases.specs.Phases.{phase_on}
use Rattle.charring.specs.Walk.{lines_left}
use Rattle.phases.proofs.PhaseWalk.{phase_to_come}
use Rattle.phases.proofs.at_time.phase_after.Given as goal

abbrev pub invariant-loop-line : goal.invariant-loop-line
invariant-loop-line l =
    let p = l.fire.panel in
    let at = l.fn.at in
    (l.progress.at ≡ at) × (phase_to_come at.q l.progress (lines_left l.line-iterator) l.fire.back
    ≡ phase_on (way p) (2 * plain_rate p * (1000 * at.n - at.q * failure_of p)) at.q)

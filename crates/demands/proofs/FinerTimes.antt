-- Thousandths of a minute lose nothing against hundredths, neither of a sum nor an EI minute nor a grade on any card. Assumes nothing.
use Prim.Native.Nat.{ℕ, ◌≤◌, min}
use mathlib.Core.Path.{◌≡◌}
use native.Mathlib.Omega.{arith}
use Rattle.panel.specs.declared.Panel.{Panel}
use Rattle.panel.specs.Faces.{fires, least_of}
use Rattle.refusals.specs.Refusals.{panel_refusal}
use Rattle.layers.specs.Layers.{ei_minute_in, printed_ei}
use Rattle.grades.proofs.Greatest.{grade_rises}
use Rattle.load.specs.LoadMinute.{printed_load}
use Rattle.fire_card.specs.Card.{text_of_card}
use Rattle.finer_times.specs.Finer.{LosesNothing}
use Rattle.finer_times.proofs.Panels.{loses_nothing}
use Rattle.demands.proofs.EveryCard.{of_every_card}
use Rattle.demands.proofs.ReadBack.{minute_read, ei_read, ei_grade_read, rei_read}
use Rattle.demands.specs.Demand3.{printed_minute}
use Rattle.demands.specs.FinerTimes.{LosesNothingOf, FinerTimes}

of_panel : (p : Panel) → panel_refusal p ≡ 0 → LosesNothingOf p (text_of_card p)
of_panel p e =
    record {
      sum = beside.sum;
      ei = omega (arith, no_less, ei_read p);
      ei_grade = omega (arith, grade_rises ei (printed_ei p) no_less, ei_grade_read p);
      rei = omega (arith, grade_rises (min r ei) (min (printed_load p) (printed_ei p)) (omega (arith, no_less, minute_read p)), rei_read p);
    }
  where
    beside : LosesNothing 100 10 p
    beside = loses_nothing 100 10 (omega arith) (omega arith) p e

    r : ℕ
    r = printed_minute (text_of_card p)

    ei : ℕ
    ei = least_of (ei_minute_in 100) (fires p)

    no_less : ei ≤ printed_ei p
    no_less = beside.ei

pub finer_times : FinerTimes
finer_times = of_every_card LosesNothingOf of_panel

-- `charring::CharringValues::of` meets its contract: each number is worked out as its definition says. Assumes nothing.
use Prim.Native.Nat.{ℕ, ◌-◌, ◌*◌}
use native.Mathlib.Omega.{arith}
use Rattle.charring.proofs.Numbers.{slow_most, depth_most, end_most}
use Rattle.charring.specs.Rates.{slow_rate, depth_at_failure, intact_end, first_end}
use mathlib.Core.Path.{◌≡◌, ap, ◌∙◌}
use Rattle.panel.proofs.Lent.{nine_lamellae}
use Rattle.panel.specs.Lamellae.{thickness}
use Rattle.charring.proofs.CharringValues.of.Goals as goal

pub invariant_of-result : goal.invariant_of-result
unfolding first_end intact_end
invariant_of-result c =
    let p = c.args.panel in
    let thick = c.total_thickness-thick.ensures ∙ ap thickness c.lamellae.ensures in
    let slow : c.k2_of.result * c.rate_of-rate.result ≡ slow_rate p = rw (c.k2_of.ensures, c.rate_of-rate.ensures.0) in
    let depth : c.k2_of.result * c.rate_of-rate.result * (c.failure_of-failure.result - c.start_of-start.result) ≡ depth_at_failure p =
    rw (c.k2_of.ensures, c.rate_of-rate.ensures.0, c.failure_of-failure.ensures, c.start_of-start.ensures) in
    let intact : c.intact_end-intact.result ≡ intact_end p = c.intact_end-intact.ensures
    ∙ rw (c.is_clad.ensures, c.rate_of-rate.ensures.0, c.failure_of-failure.ensures, c.start_of-start.ensures) in
    let end : c.passed_end.result ≡ first_end p = c.passed_end.ensures ∙ rw (c.of.ensures, depth, intact) in
    record {
      fits = c.requires;
      start_is = c.start_of-start.ensures;
      failure_is = c.failure_of-failure.ensures;
      slow_is = slow;
      plain_is = ap (λ (r : ℕ). 10000 * r) c.rate_of-rate.ensures.0;
      depth_is = depth;
      end_is = end;
      back_is = ap (λ (k : ℕ). 100000000 * k) (c.from.ensures ∙ thick);
      full_is = omega (arith, c.start_of-start.ensures, c.max.ensures);
      slow_most = omega (arith, slow, slow_most p c.requires);
      depth_most = omega (arith, depth, depth_most p c.requires);
      end_most = omega (arith, end, end_most p c.requires);
    }

pub total_thickness-thick-requires : goal.total_thickness-thick-requires
total_thickness-thick-requires c = rw c.lamellae.ensures (nine_lamellae c.args.panel c.requires.count)

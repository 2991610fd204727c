-- What is the same at every minute keeps its bounds.
use Prim.Native.Nat.{◌-◌, ◌≤◌}
use native.Mathlib.Omega.{arith}
use Rattle.panel.specs.declared.Panel.{Panel}
use Rattle.panel.specs.Products.{rate_of}
use Rattle.charring.specs.Rates.{start_of, failure_of, k2, slow_rate, plain_rate, depth_at_failure, first_end, back_face}
use Rattle.charring.specs.Depths.{full_at}
use Rattle.charring.specs.Fits.{CharringFits}
use Rattle.numbers.proofs.Products.{times}
use Rattle.charring.proofs.FirstRun.{first_end_run}

pub slow_most : (p : Panel) → CharringFits p → slow_rate p ≤ 1000000
slow_most p h = omega (arith, times (k2 p.cladding) 10000 (rate_of p) 100 h.slow h.rate)

pub depth_most : (p : Panel) → CharringFits p → depth_at_failure p ≤ 360000000000
depth_most p h =
    let time : failure_of p - start_of p ≤ 360000 = omega (arith, h.failure) in
    omega (arith, times (slow_rate p) 1000000 (failure_of p - start_of p) 360000 (slow_most p h) time)

pub end_most : (p : Panel) → CharringFits p → first_end p ≤ 385000000000
end_most p h = omega (arith, first_end_run p, depth_most p h)

-- every number that is the same at every minute
pub record Bounded (p : Panel) : Type 0 where
  pub failure : failure_of p ≤ 360000
  pub slow : slow_rate p ≤ 1000000
  pub plain : plain_rate p ≤ 1000000
  pub depth : depth_at_failure p ≤ 360000000000
  -- 25 mm past the depth at t_f
  pub end : first_end p ≤ 385000000000
  pub back : back_face p ≤ 400000000000
  pub least : 20000 ≤ full_at p
  pub full : full_at p ≤ 112000

pub fire_bounds : (p : Panel) → CharringFits p → Bounded p
fire_bounds p h =
    record {
      failure = h.failure;
      slow = slow_most p h;
      plain = omega (arith, h.rate);
      depth = depth_most p h;
      end = end_most p h;
      back = omega (arith, h.thick);
      least = omega arith;
      full = omega (arith, h.start);
    }

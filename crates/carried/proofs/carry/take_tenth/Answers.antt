-- `carried::carry::take_tenth` meets its contract: (a + 1)² − a² is 2a + 1, and (a + 1)³ − a³ is 3a(a + 1) + 1. Assumes nothing.
use Prim.Native.Nat.{ℕ, ◌+◌, ◌-◌, ◌*◌}
use mathlib.Core.Path.{◌≡◌, ap, ◌∙◌}
use native.Mathlib.Omega.{arith}
use lib.Dec.{eqb}
use Rattle.numbers.specs.Choice.{pick}
use Rattle.carried.specs.Carried.{without}
use Rattle.carried.proofs.carry.take_tenth.Goals as goal

length_one : (a : ℕ) → 1 ≡ a + 1 - a
length_one a = omega arith

squares_one : (a : ℕ) → 2 * a + 1 ≡ (a + 1) * (a + 1) - a * a
squares_one a = omega arith

cubes_one : (a : ℕ) → 3 * a * (a + 1) + 1 ≡ (a + 1) * (a + 1) * (a + 1) - a * a * a
cubes_one a = omega arith

pub returns : goal.returns
unfolding without
returns c =
    let s = c.args.s in
    λ i.
    record {
      n = s.n - length_one s.lo i;
      p = s.p - squares_one s.lo i;
      q = s.q - cubes_one s.lo i;
      lo = s.lo + 1;
      hi = (c.where_none.ensures ∙ ap (λ (d : ℕ). pick (eqb (s.n - d) 0) 0 s.hi) (length_one s.lo)) i;
    }

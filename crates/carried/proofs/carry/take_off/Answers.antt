-- `carried::carry::take_off` meets its contract: each field is what its function ensures. Assumes nothing.
use Prim.Native.Nat.{◌-◌}
use Rattle.carried.specs.Carried.{without}
use Rattle.carried.proofs.carry.take_off.Goals as goal

pub returns : goal.returns
unfolding without
returns c =
    let s = c.args.s in
    λ i.
    record {
      n = s.n - (c.args.part.to - c.args.part.from);
      p = s.p - c.squares.ensures.0 i;
      q = s.q - c.cubes.ensures.0 i;
      lo = c.args.lo;
      hi = c.where_none.ensures i;
    }

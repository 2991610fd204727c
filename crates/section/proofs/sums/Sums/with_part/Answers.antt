-- `section::sums::Sums::with_part` meets its contract: each field is what its function ensures, and the part lies below the sums. Assumes
-- nothing.
use Prim.Native.Nat.{ℕ, ◌+◌, ◌-◌, ◌≤◌}
use mathlib.Core.Bool.{Bool, true, false}
use mathlib.Core.Path.{refl}
use native.Mathlib.Omega.{arith}
use lib.Dec.{eqb}
use Rattle.numbers.specs.Choice.{pick}
use Rattle.section.specs.Growing.{with_part}
use Rattle.section.proofs.sums.Sums.with_part.Goals as goal
use Rattle.numbers.proofs.Products.{square_rises, cube_rises}

either_within : (first : Bool) (x y most : ℕ) → x ≤ most → y ≤ most → pick first x y ≤ most
either_within true x y most one other = one
either_within false x y most one other = other

pub invariant_of-result : goal.invariant_of-result
invariant_of-result c =
    let s = c.args.self in
    let part = c.args.part in
    record {
      within = part.within;
      bounds = record {
        n = omega (arith, s.bounds.n, c.requires, part.forward);
        p = omega (arith, s.bounds.p, c.squares.ensures.0, square_rises _ _ c.requires, square_rises _ _ part.forward);
        q = omega (arith, s.bounds.q, c.cubes.ensures.0, cube_rises _ _ c.requires, cube_rises _ _ part.forward);
        lo =
            rw c.where_none.ensures
            (either_within (eqb s.section.n 0) part.from s.section.lo part.to part.forward (omega (arith, s.bounds.lo, c.requires, part.forward)));
        hi = omega arith;
      };
    }

pub returns : goal.returns
unfolding with_part
returns c =
    let s = c.args.self.section in
    let part = c.args.part in (
      λ i.
          record {
            n = s.n + (part.to - part.from);
            p = s.p + c.squares.ensures.0 i;
            q = s.q + c.cubes.ensures.0 i;
            lo = c.where_none.ensures i;
            hi = part.to;
          },
      refl,
    )

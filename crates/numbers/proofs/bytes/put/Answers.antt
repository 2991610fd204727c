-- `numbers::bytes::put` meets its contract: the part that is written over holds the bytes.
-- Assumes nothing.
use Prim.Native.Nat.{ℕ, ◌+◌, ◌-◌, ◌≤◌}
use lib.ListN.{length, length-take, length-drop}
use mathlib.Core.Path.{◌≡◌, ap}
use native.Mathlib.Omega.{arith}
use Rattle.numbers.proofs.Lists.{part_stored}
use Rattle.numbers.proofs.bytes.put.Goals as goal

pub returns : goal.returns
returns g c =
    let k : ℕ = c.args.at + g.row.N - c.args.at in
    let e : k ≡ length c.args.bytes =
    omega (arith, simp (length-take, length-drop) at c.copy_from_slice.ensures.len, ap length c.copy_from_slice.ensures.after) in
    let fits : c.args.at + length c.args.bytes ≤ length c.args.out.now = omega (arith, e) in
    rw c.copy_from_slice.ensures.after (part_stored c.args.out.now c.args.bytes c.args.at k e fits)

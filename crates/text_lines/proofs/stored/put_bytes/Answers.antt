-- `text_lines::stored::put_bytes` meets its contract: the part that is written over holds the bytes.
use Rattle.std.proofs.Common.{ℕ, ◌+◌, ◌-◌, ◌≡◌, length, arith, refl}
use Rattle.numbers.proofs.Lists.{part_stored}
use Rattle.text_lines.proofs.stored.put_bytes.Goals as goal

pub returns : goal.returns
returns c =
    let k : ℕ = c.args.at + length c.args.bytes.now - c.args.at in
    record {
      stored = rw c.copy_from_slice.ensures.after
          (part_stored c.args.out.now c.args.bytes.now c.args.at k (omega arith) (omega arith));
      ends = refl;
      within = omega arith;
    }

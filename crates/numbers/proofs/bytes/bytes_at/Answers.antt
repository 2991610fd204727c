-- `numbers::bytes::bytes_at` meets its contract: what there is of the bytes, then zeros.
-- Assumes nothing.
use Rattle.numbers.proofs.Places.{places_padded}
use Rattle.numbers.proofs.bytes.bytes_at.Goals as goal

pub returns : goal.returns
returns g c =
    rw c.copy_from_slice.ensures.after (rw c.min-n.ensures (rw c.part_from-there.ensures (places_padded c.args.s.now c.args.at g.row.N)))

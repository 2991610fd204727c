-- `text_lines::stored::put_time` meets its contract: each of the three stores begins where the one before it ends.
use Rattle.std.proofs.Common.{arith, append_assoc}
use Rattle.text_lines.proofs.Storing.{put_then}
use Rattle.text_lines.proofs.stored.put_time.Goals as goal

pub returns : goal.returns
returns c =
    let p = put_then (put_then c.put_bytes-first.ensures c.put_field-colon.ensures) c.put_bytes.ensures in
    rw append_assoc (record { stored = p.stored; ends = p.ends; within = omega arith })

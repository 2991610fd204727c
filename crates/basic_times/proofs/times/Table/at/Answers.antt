-- `basic_times::times::Table::at` meets its contract: the place in a table is counted from the thinnest layer. Assumes nothing.
use Rattle.basic_times.proofs.Entries.{time_read}
use native.Mathlib.Omega.{arith}
use Rattle.basic_times.proofs.times.Table.at.Goals as goal

pub returns : goal.returns
returns c =
    let t = c.args.self in
    time_read t.role t.material c.args.h _ t.entries.now t.by_the_rule c.requires (omega arith)

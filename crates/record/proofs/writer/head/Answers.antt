-- `record::writer::head` meets its contract: each number's bytes follow those of the one before. Assumes nothing.
use mathlib.Core.Path.{◌∙◌}
use native.Mathlib.Omega.{arith}
use Rattle.std.specs.Int.{w16, w32}
use Rattle.numbers.proofs.Words.{word_written}
use Rattle.record.proofs.writer.head.Goals as goal

pub returns : goal.returns
returns c =
    let p = c.args.p in
    let strength = c.to_be_bytes.ensures ∙ word_written w16 p.strength (omega arith) in
    let moment = c.to_be_bytes-2.ensures ∙ word_written w32 p.moment (omega arith) in
    let failure_time = c.to_be_bytes-3.ensures ∙ word_written w32 p.failure_time (omega arith) in
    simp (strength, moment, failure_time, c.boards_of-c.ensures.0)

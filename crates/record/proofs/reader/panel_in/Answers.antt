-- `record::reader::panel_in` meets its contract: field by field, by what the readers say.
-- Assumes nothing.
use Rattle.numbers.proofs.Words.{word_at}
use Rattle.record.specs.Layouts.{panel_in}
use Rattle.std.specs.Int.{w16, w32}
use Rattle.record.proofs.reader.panel_in.Goals as goal

pub returns : goal.returns
unfolding panel_in
returns c =
    let t = c.body_of-t.result.now in
    let strength = word_at w16 t 3 c.bytes_at.ensures c.from_be_bytes.ensures in
    let moment = word_at w32 t 5 c.bytes_at-2.ensures c.from_be_bytes-2.ensures in
    let failure_time = word_at w32 t 10 c.bytes_at-3.ensures c.from_be_bytes-3.ensures in
    simp (c.version_of.ensures, c.face_of.ensures, c.byte_at.ensures, c.byte_at-2.ensures, c.byte_at-3.ensures, strength, moment, failure_time, c.cladding_at.ensures, c.from.ensures, c.lamella_count.ensures, c.lamellae_of.ensures, c.board_count.ensures, c.body_of-t.ensures)

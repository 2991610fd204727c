-- `text_lines::text::Text::push_line` meets its contract: what is stored behind the text is added to it.
use Rattle.std.proofs.Common.{arith, length, ap}
use Rattle.std.proofs.lemmas.List.{length-take-le}
use Rattle.text_lines.proofs.Lengths.{length_line}
use Rattle.text_lines.proofs.Storing.{put_added}
use Rattle.text_lines.proofs.text.Text.push_line.Goals as goal

pub returns-clause-added : goal.returns-clause-added
returns-clause-added g c =
    let used = length-take-le c.self.inside.length c.self.inside.bytes (omega arith) in
    rw (← c.self.view_is) (put_added c.put_line-self-inside.ensures
    (omega (arith, used, ap length c.self.view_is, length_line c.args.head.now c.args.numbers.now)))

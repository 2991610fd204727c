-- `text_lines::stored::put_line` meets its contract: behind the head, after i rounds, the first i fields are stored.
use Rattle.std.proofs.Common.{◌≡◌, ◌*◌, length, take}
use Rattle.text_lines.specs.Stores.{Put}
use Rattle.text_lines.specs.Text.{text_fields}
use Rattle.text_lines.proofs.stored.put_line.Given as goal

abbrev pub invariant-loop-n : goal.invariant-loop-n
invariant-loop-n l =
    (length l.out ≡ length l.initial.out)
    × Put l.initial.out l.initial.end (text_fields (take l.n-index l.numbers)) (11 * l.n-index) l.end l.out

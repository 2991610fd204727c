-- `text_lines::stored::put_line` meets its contract: each store begins where the one before it ends.
use Rattle.std.proofs.Common.{◌+◌, ◌*◌, ◌≡◌, ◌∙◌, length, arith, refl}
use Rattle.std.proofs.Math.Seq.{take-length}
use Rattle.text_lines.specs.Text.{text_fields}
use Rattle.text_lines.proofs.Lengths.{fields_take}
use Rattle.text_lines.proofs.Storing.{put_byte, put_then}
use Rattle.text_lines.proofs.stored.put_line.Goals as goal

pub loop-n-init : goal.loop-n-init
unfolding text_fields
loop-n-init c = (refl, record { stored = refl; ends = omega arith; within = omega arith })

pub loop-n-preserved : goal.loop-n-preserved
loop-n-preserved c =
    let l = c.loop-n in
    let i = l.n-index in
    let most : 11 * (i + 1) ≡ 11 * i + 11 = omega arith in (
      c.put_field-end.auto.out ∙ l.invariant.0,
      rw (fields_take c.args.numbers.now i (omega arith), most) (put_then l.invariant.1 c.put_field-end.ensures),
    )

pub returns : goal.returns
returns c =
    let l = c.loop-n in
    let ns = c.args.numbers.now in
    let all : l.n-index ≡ length ns = omega arith in
    rw (all, take-length ns) at (put_then (put_then c.put_bytes-end.ensures l.invariant.1) (put_byte l.out l.end 10))

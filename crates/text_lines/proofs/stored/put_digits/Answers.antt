-- `text_lines::stored::put_digits` meets its contract: each round stores the last digit of what is left of the number.
use Rattle.std.proofs.Common.{◌-◌, ◌+◌, ◌≡◌, ◌<◌, arith, add-one}
use Rattle.text_lines.proofs.Digits.{digit_stored, first_stored, tenth_below}
use Rattle.text_lines.proofs.stored.put_digits.Goals as goal

pub loop-rest-preserved : goal.loop-rest-preserved
loop-rest-preserved c =
    let l = c.loop-rest in
    let left : 0 < l.first = grind (arith, l.invariant.fits) in
    let e : l.first - 1 + 1 ≡ l.first = omega arith in
    rw e (record {
      place = omega arith;
      fits = tenth_below l.first l.rest (rw add-one at l.invariant.fits);
      stored = digit_stored l.first l.rest l.bytes _ (omega arith) (omega arith) l.invariant.stored;
    })

pub returns : goal.returns
returns c =
    let l = c.loop-rest in
    (l.invariant.place, first_stored l.first l.rest l.bytes _ (omega arith) (omega arith) l.invariant.stored)

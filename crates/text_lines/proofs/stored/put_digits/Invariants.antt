-- `text_lines::stored::put_digits` meets its contract: the digits of the rest come before those that are stored.
use Rattle.std.proofs.Common.{◌≡◌, ◌+◌, ◌^◌, ◌<◌, ◌≤◌, ◌++◌, drop}
use Rattle.text_lines.specs.Text.{digits, decimal}
use Rattle.text_lines.proofs.stored.put_digits.Given as goal

abbrev pub invariant-loop-rest : goal.invariant-loop-rest
invariant-loop-rest l = record {
  place : l.first ≤ 9;
  fits : l.rest < 10 ^ (l.first + 1);
  stored : digits (l.first + 1) l.rest ++ drop (l.first + 1) l.bytes ≡ decimal l.n;
}

abbrev pub decreases-loop-rest : goal.decreases-loop-rest
decreases-loop-rest l = l.rest

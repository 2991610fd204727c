-- An entry is below 2³², so both sums fit 64 bits.
use Rattle.std.proofs.Common.{◌*◌, ◌≤◌, length}
use Rattle.test_run.proofs.tables.print_sums.Given as goal

abbrev pub invariant-loop-entry : goal.invariant-loop-entry
invariant-loop-entry g l = (l.sum ≤ 4294967295 * length l.yielded) × (l.placed ≤ 1717986918000 * length l.yielded)

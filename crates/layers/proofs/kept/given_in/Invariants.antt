-- `layers::kept::given_in` meets its contract: each lamella adds at most the longest time. Assumes nothing.
use Rattle.std.proofs.Common.{◌+◌, ◌*◌, ◌≤◌}
use Rattle.basic_times.specs.Rules.{longest_time}
use Rattle.layers.proofs.kept.given_in.Given as goal

abbrev pub invariant-loop-at : goal.invariant-loop-at
invariant-loop-at l = l.sum ≤ 2 * longest_time + longest_time * l.at

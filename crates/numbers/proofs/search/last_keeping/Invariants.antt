-- `numbers::search::last_keeping` meets its contract: `last` keeps the test and `failing` does not, until they are neighbours. Assumes nothing.
use Rattle.std.proofs.Common.{◌-◌, ◌<◌, ◌≤◌, true, false}
use Rattle.numbers.proofs.search.last_keeping.Given as goal

abbrev pub invariant-loop-last : goal.invariant-loop-last
invariant-loop-last g l = record {
  apart : l.last < l.failing;
  within : l.failing ≤ l.beyond;
  kept : 0 < l.last → goal.F-post g l.keeps l.last true;
  failed : l.failing < l.beyond → goal.F-post g l.keeps l.failing false;
}

abbrev pub decreases-loop-last : goal.decreases-loop-last
decreases-loop-last g l = l.failing - l.last

-- `planing::search::least_cut` meets its contract: no smaller amount serves for any lamella. Assumes nothing.
use Prim.Native.Nat.{ℕ, ◌<◌}
use Rattle.planing.proofs.Searching.{NoneFor}
use Rattle.planing.proofs.search.least_cut.Given as goal

abbrev pub invariant-loop-tenths : goal.invariant-loop-tenths
invariant-loop-tenths l = (k : ℕ) → k < l.tenths → NoneFor l.rated.panel k

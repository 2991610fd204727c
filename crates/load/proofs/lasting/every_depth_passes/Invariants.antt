-- `load::lasting::every_depth_passes` meets its contract: what is still asked of the depths is what was asked at first. Assumes nothing.
use Rattle.section.specs.Tests.{passes_under}
use Rattle.load.specs.LoadMinute.{every_through}
use Rattle.load.specs.Reach.{left_passes, most_ranges}
use mathlib.Core.Path.{◌≡◌}
use Rattle.load.proofs.lasting.every_depth_passes.Given as goal

abbrev pub invariant-loop-reach : goal.invariant-loop-reach
invariant-loop-reach l = left_passes l.reach ≡ every_through (passes_under l.fn.moment l.fn.p) l.fn.first l.fn.last

abbrev pub decreases-loop-reach : goal.decreases-loop-reach
decreases-loop-reach l = most_ranges l.reach

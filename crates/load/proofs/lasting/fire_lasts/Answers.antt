-- `load::lasting::fire_lasts` meets its contract: the depth at a time lies within the panel. Assumes nothing.
use Rattle.charring.proofs.Minutes.{tenths_same}
use Rattle.charring.proofs.DepthBounds.{tenths_within}
use Rattle.charring.specs.Depths.{tenths_at}
use Rattle.load.proofs.EveryDepth.{zero_through}
use Rattle.load.specs.LoadMinute.{every_from, time_test}
use Rattle.section.specs.Tests.{depth_passes}
use mathlib.Core.Path.{◌≡◌, ap, ◌∙◌}
use native.Mathlib.Omega.{arith}
use Rattle.load.proofs.lasting.fire_lasts.Goals as goal
use Rattle.load.proofs.lasting.fire_lasts.Goals.{After-tenths-depth}

depth_at : (c : After-tenths-depth) → c.tenths-depth.result ≡ tenths_at c.args.p c.args.minute 1
depth_at c =
    c.tenths-depth.ensures
    ∙ tenths_same c.of.ensures (c.minute.ensures.0 ∙ c.from.ensures ∙ c.number.ensures.number) c.minute.ensures.1

pub every_depth_passes-requires : goal.every_depth_passes-requires
every_depth_passes-requires c =
    let fits = c.requires.0 in
    let thick = fits.thickness in
    let most = c.number.ensures.most in
    let within = tenths_within c.args.p c.number.result 1 (omega arith) in
    let depth = c.tenths-depth.ensures ∙ tenths_same c.of.ensures (c.minute.ensures.0 ∙ c.from.ensures) c.minute.ensures.1 in
    record {
      fits = fits;
      moment_bound = fits.moment;
      order = (omega arith, omega (arith, depth));
    }

pub returns : goal.returns
unfolding time_test
returns c =
    c.every_depth_passes.ensures
    ∙ zero_through (depth_passes c.args.p) c.from-2.result
    ∙ ap (every_from (depth_passes c.args.p) 0) (c.from-2.ensures ∙ depth_at (goal.at.returns c).After-tenths-depth)

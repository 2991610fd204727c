-- `builds::same::is_same_build` meets its contract: the parts agree where the builds do. Assumes nothing.
use Rattle.std.proofs.Common.{◌&&◌, ◌∙◌}
use mathlib.Core.Path.{ap₂}
use Rattle.builds.specs.Builds.{same_lamellae, same_build}
use Rattle.builds.proofs.same.is_same_build.Goals as goal

pub returns : goal.returns
returns c =
    ap₂ ◌&&◌ (ap₂ ◌&&◌ c.same_cladding.ensures (c.same_lamellae.ensures ∙ ap₂ same_lamellae c.lamellae.ensures c.lamellae-2.ensures)) c.same_numbers.ensures
    ∙ ap₂ same_build c.panel-a.ensures.panel c.panel-b.ensures.panel

-- The last depth to which a panel passes. It does not depend on time: a time passes exactly when its depth is no deeper (LastPassing in
-- proofs/).
use Rattle.std.specs.Prelude.{ℕ}
use Rattle.numbers.specs.Largest.{largest}
use Rattle.panel.specs.declared.Panel.{Panel}
use Rattle.panel.specs.Lamellae.{lamellae, thickness}
use Rattle.section.specs.Tests.{depth_passes}
use Rattle.load.specs.LoadMinute.{every_from}

-- the largest depth in tenths of mm, at most the panel's thickness, to which every depth from 0 on passes
unfoldable pub last_passing : Panel → ℕ
last_passing p = largest (λ (depth : ℕ). every_from (depth_passes p) 0 depth) (thickness (lamellae p))

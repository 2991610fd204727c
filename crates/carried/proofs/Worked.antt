-- A worked panel keeps the limits which carrying its section requires. Assumes nothing.
use Prim.Native.Nat.{◌<◌}
use lib.ListN.{take}
use mathlib.Core.Path.{◌≡◌, refl}
use native.Mathlib.Omega.{arith}
use Rattle.panel.specs.Lamellae.{lamellae_of, lamellae, thickness}
use Rattle.panel.specs.Worked.{g}
use Rattle.section.specs.Sections.{counted, section_of}
use Rattle.section.specs.Tests.{section_at}
use Rattle.section.proofs.Worked.{g_fits}
use Rattle.carried.specs.Carrying.{LamellaeFit}
use Rattle.carried.proofs.Lent.{own_lamellae}

-- the lamellae of G are as they must be to be lent and to carry a section along them
pub g_lamellae_fit : LamellaeFit (lamellae (g 3000))
unfolding lamellae_of
g_lamellae_fit = own_lamellae (g 3000) g_fits (omega arith, (omega arith, (omega arith, tt)))

-- and what is carried along them begins at depth 0, short of their thickness, with no lamella begun
pub g_carried :
    (section_at (g 3000) 0 ≡ section_of (counted 0 (lamellae (g 3000))))
    × ((0 ≡ thickness (take 0 (lamellae (g 3000)))) × (0 < thickness (lamellae (g 3000))))
unfolding lamellae_of thickness
g_carried = (refl, (refl, omega arith))

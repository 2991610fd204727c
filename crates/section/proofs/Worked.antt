-- The worked panels keep the limits which the functions require. The starred lines are in the crate `cases`. Assumes nothing.
use native.Mathlib.Omega.{arith}
use Rattle.panel.specs.Lamellae.{lamellae_of, thickness}
use Rattle.panel.specs.Worked.{g, recovers}
use Rattle.section.specs.Tests.{SectionFits}

-- both panels keep the limits
pub g_fits : SectionFits (g 3000)
unfolding lamellae_of thickness
g_fits = record { strength = omega arith; moment = omega arith; count = omega arith; thickness = omega arith }

pub recovers_fits : SectionFits recovers
unfolding lamellae_of thickness
recovers_fits = record { strength = omega arith; moment = omega arith; count = omega arith; thickness = omega arith }

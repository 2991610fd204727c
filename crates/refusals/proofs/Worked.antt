-- G with M 43,056 is accepted, by computation, so that what holds of accepted panels is said of one. Assumes nothing.
use mathlib.Core.Path.{◌≡◌, refl}
use Rattle.panel.specs.Lamellae.{lamellae_of, thickness}
use Rattle.panel.specs.Worked.{g}
use Rattle.section.specs.Sections.{counted_from, total, lowest, highest, section_of}
use Rattle.section.specs.Tests.{carries}
use Rattle.refusals.specs.Causes.{some}
use Rattle.refusals.specs.Refusals.{panel_refusal, refusal_before_section}

pub g_accepted : panel_refusal (g 43056) ≡ 0
unfolding panel_refusal some lamellae_of thickness counted_from total lowest highest section_of carries
g_accepted = refl

-- with M 43,057 it meets 13 and no line above it: what is asked of a panel that may still fail at depth 0 is said of one
pub g_fails_at_zero : (refusal_before_section (g 43057) ≡ 0) × (panel_refusal (g 43057) ≡ 13)
unfolding panel_refusal refusal_before_section some lamellae_of thickness counted_from total lowest highest section_of carries
g_fails_at_zero = (refl, refl)

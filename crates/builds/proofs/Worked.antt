-- G beside others, by computation, so that what holds of the same build and of different ones is said of some. Assumes nothing.
use mathlib.Core.Path.{◌≡◌, refl}
use Rattle.std.specs.Prelude.{true, false, Ok}
use Rattle.panel.specs.Lamellae.{lamellae_of, thickness}
use Rattle.panel.specs.Faces.{turned}
use Rattle.panel.specs.Worked.{g, g_falling, on_face}
use Rattle.section.specs.Sections.{counted_from, total, lowest, highest, section_of}
use Rattle.section.specs.Tests.{carries}
use Rattle.refusals.specs.Causes.{some}
use Rattle.refusals.specs.Refusals.{panel_refusal}
use Rattle.builds.specs.Builds.{same_lamellae}
use Rattle.builds.specs.Answers.{compared, build_answer}

-- under another moment: the same build
pub g_same : build_answer (g 3000) (g 0) ≡ Ok true
unfolding compared same_lamellae panel_refusal some lamellae_of thickness counted_from total lowest highest section_of carries
g_same = refl

-- "although one panel had falling bonds"
pub g_different : build_answer (g 3000) (g_falling 3000) ≡ Ok false
unfolding compared same_lamellae panel_refusal some lamellae_of thickness counted_from total lowest highest section_of carries
g_different = refl

-- the same panel in both versions: the same build
pub g_versions : build_answer (g 3000) (on_face 0 (g 3000)) ≡ Ok true
unfolding compared same_lamellae panel_refusal some lamellae_of thickness counted_from total lowest highest section_of carries
g_versions = refl

-- G, which is symmetrical, turned and with another face: another build
pub g_turned : build_answer (on_face 0 (g 3000)) (on_face 1 (turned (g 3000))) ≡ Ok false
unfolding compared same_lamellae panel_refusal some lamellae_of thickness counted_from total lowest highest section_of carries
g_turned = refl

-- Panels that `same_build` calls the same share depth table, phases, layer times and EI.
use Rattle.std.specs.Prelude.{Ok, true}
use mathlib.Core.Path.{◌≡◌, ap}
use Rattle.panel.specs.declared.Panel.{Panel}
use Rattle.builds.specs.Builds.{SameBuild}
use Rattle.panel.specs.Faces.{turned}
use Rattle.builds.proofs.Builds.{same_but_uncompared}
use Rattle.builds.proofs.Turning.{turned_build}
use Rattle.builds.specs.Answers.{build_answer}
use Rattle.builds.proofs.SameBuilds.{same_when}
use Rattle.builds.proofs.SharedDepths as depths
use Rattle.builds.proofs.SharedPhases as phases
use Rattle.builds.proofs.SharedLayers as layers
use Rattle.grades.specs.Grades.{grade_of}
use Rattle.ratings.specs.Answers.{ei_grade, graded}
use Rattle.builds.specs.Shared.{SharedFire, Shared}

fire_shares : (a b : Panel) → SameBuild a b → SharedFire a b
fire_shares a b h =
    record {
      char = depths.char_shared a b h;
      effective = depths.tenths_shared a b h;
      phase = phases.phase_shared a b h;
      table = phases.table_shared a b h;
      layers = layers.layers_shared a b h;
    }

pub same_build_shares : (a b : Panel) → build_answer a b ≡ Ok true → Shared a b
unfolding graded
same_build_shares a b e =
    let both = (same_when a b).0 e in
    let h = both.1.1 in
    let grade : ei_grade a ≡ ei_grade b = ap grade_of (layers.ei_shared a b h) in
    record {
      rest = same_but_uncompared a b h;
      first = fire_shares a b h;
      last = fire_shares (turned a) (turned b) (turned_build a b h);
      char_answers = phases.char_answers_shared a b both.0 both.1.0 h;
      effective_answers = phases.effective_answers_shared a b both.0 both.1.0 h;
      phase_answers = phases.phase_answers_shared a b both.0 both.1.0 h;
      table_answers = phases.table_answers_shared a b both.0 both.1.0 h;
      tables_after = phases.table_after_shared a b both.0 both.1.0 h;
      sum_answers = layers.sum_answers_shared a b both.0 both.1.0 h;
      ei_answers = layers.ei_answers_shared a b both.0 both.1.0 h;
      grade_answers = rw (both.0, both.1.0) (ap Ok grade);
    }

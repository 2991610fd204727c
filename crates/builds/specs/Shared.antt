-- What panels of the same build share: everything that version, strength and moment do not enter. "Same build" is document 01's term; card
-- numbers rest on it (document 02, 2/14).
use Rattle.std.specs.Prelude.{ℕ, ◌≡◌, List}
use Rattle.panel.specs.declared.Panel.{Panel}
use Rattle.panel.specs.Lamellae.{SameUsed}
use Rattle.builds.specs.Builds.{with_uncompared}
use Rattle.panel.specs.Faces.{turned}
use Rattle.charring.specs.Depths.{char_at, tenths_at}
use Rattle.phases.specs.Phases.{phase_at}
use Rattle.phases.specs.Answers.{char_answer, effective_answer, phase_answer, depth_table, table_answer, table_after}
use Rattle.layers.specs.Layers.{layers_of}
use Rattle.layers.specs.Answers.{ei_sum_answer, ei_answer}
use Rattle.ratings.specs.Answers.{ei_grade, graded}

-- in a fire, given as the panels that have it on their first face
pub record SharedFire (a b : Panel) : Type 0 where
  -- char depth, effective depth and phase at every time n/q, and the depth table
  pub char : (n q : ℕ) → char_at a n q ≡ char_at b n q
  pub effective : (n q : ℕ) → tenths_at a n q ≡ tenths_at b n q
  pub phase : (n q : ℕ) → phase_at a n q ≡ phase_at b n q
  pub table : depth_table a ≡ depth_table b
  -- the layers, which alone decide each layer's time
  pub layers : layers_of a ≡ layers_of b

pub record Shared (a b : Panel) : Type 0 where
  -- but for version, strength and moment, and for unused places, they are one panel
  pub rest : SameUsed (with_uncompared a b.version b.strength b.moment) b
  -- in a fire on either face
  pub first : SharedFire a b
  pub last : SharedFire (turned a) (turned b)
  -- what the open calls answer, and what the depth table leaves in its lent space
  pub char_answers : (minute : ℕ) → char_answer a minute ≡ char_answer b minute
  pub effective_answers : (minute : ℕ) → effective_answer a minute ≡ effective_answer b minute
  pub phase_answers : (minute : ℕ) → phase_answer a minute ≡ phase_answer b minute
  pub table_answers : (space : List ℕ) → table_answer a space ≡ table_answer b space
  pub tables_after : (space : List ℕ) → table_after a space ≡ table_after b space
  pub sum_answers : ei_sum_answer a ≡ ei_sum_answer b
  pub ei_answers : ei_answer a ≡ ei_answer b
  pub grade_answers : graded ei_grade a ≡ graded ei_grade b

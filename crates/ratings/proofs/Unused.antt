-- Unused places do not matter: panels that differ at most there get the same grades and meet the same refusals.
use mathlib.Core.Path.{◌≡◌, ap, ap₂}
use Rattle.panel.specs.declared.Panel.{Panel}
use Rattle.panel.specs.Lamellae.{SameUsed}
use Rattle.refusals.proofs.Unused.{refusal_unused}
use Rattle.layers.proofs.Unused.{printed_ei_same}
use Rattle.grades.specs.declared.Grade.{Grade}
use Rattle.grades.specs.Grades.{grade_of, rei_of}
use Rattle.load.proofs.Unused.{printed_load_same}
use Rattle.ratings.specs.Answers.{load_grade, ei_grade, rei_grade, graded}

module _ (p q : Panel) (h : SameUsed p q) where
  graded_same : (grade : Panel → Grade) → grade p ≡ grade q → graded grade p ≡ graded grade q
  unfolding graded
  graded_same grade e = rw (refusal_unused p q h, e)

  pub load_grade_unused : graded load_grade p ≡ graded load_grade q
  load_grade_unused = graded_same load_grade (ap grade_of (printed_load_same p q h))

  pub ei_grade_unused : graded ei_grade p ≡ graded ei_grade q
  ei_grade_unused = graded_same ei_grade (ap grade_of (printed_ei_same p q h))

  pub rei_grade_unused : graded rei_grade p ≡ graded rei_grade q
  rei_grade_unused = graded_same rei_grade (ap₂ rei_of (printed_load_same p q h) (printed_ei_same p q h))

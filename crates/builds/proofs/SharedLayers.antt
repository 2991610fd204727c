-- Panels of the same build have the same layers and EI, and the calls answer alike.
use mathlib.Core.Path.{◌≡◌, ap}
use Rattle.std.specs.Prelude.{ℕ, Ok}
use Rattle.panel.specs.declared.Panel.{Panel}
use Rattle.builds.specs.Builds.{SameBuild}
use Rattle.builds.proofs.Turning.{least_build}
use Rattle.refusals.specs.Refusals.{panel_refusal}
use Rattle.layers.specs.Layers.{layers_of, sum_after_in, ei_sum_in, ei_sum, ei_minute, printed_ei}
use Rattle.layers.specs.Answers.{ei_answer, ei_sum_answer}

module _ (a b : Panel) (h : SameBuild a b) where
  pub layers_shared : layers_of a ≡ layers_of b
  layers_shared = rw (h.boards, h.lamellae)

  sum_shared : (parts : ℕ) → ei_sum_in parts a ≡ ei_sum_in parts b
  unfolding ei_sum_in
  sum_shared parts = ap (sum_after_in parts 0) layers_shared

-- in every fire
pub ei_shared : (a b : Panel) → SameBuild a b → printed_ei a ≡ printed_ei b
ei_shared = least_build ei_minute (λ a b h. rw (sum_shared a b h _))

-- Answers, where neither panel is refused

module _ (a b : Panel) (e : panel_refusal a ≡ 0) (f : panel_refusal b ≡ 0) (h : SameBuild a b) where
  pub sum_answers_shared : ei_sum_answer a ≡ ei_sum_answer b
  unfolding ei_sum_answer
  sum_answers_shared = rw (e, f) (ap Ok (least_build ei_sum (λ a b h. sum_shared a b h _) a b h))

  pub ei_answers_shared : ei_answer a ≡ ei_answer b
  unfolding ei_answer
  ei_answers_shared = rw (e, f) (ap Ok (ei_shared a b h))

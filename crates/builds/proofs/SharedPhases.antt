-- Panels of the same build have the same phases and depth table, and the calls answer alike: none of them looks at version, strength or
-- moment.
use Prim.Native.Nat.{ℕ, ◌*◌}
use mathlib.Core.Path.{◌≡◌, refl, sym, ◌∙◌}
use mathlib.Core.List.{List, ◌++◌}
use lib.ListN.{drop}
use Rattle.panel.specs.declared.Panel.{Panel}
use Rattle.builds.specs.Builds.{SameBuild}
use Rattle.panel.specs.Faces.{shown}
use Rattle.builds.proofs.Builds.{same_shared}
use Rattle.builds.proofs.Turning.{shown_build}
use Rattle.refusals.specs.Lines.{Line, refusal, answer, unless_refused}
use Rattle.refusals.specs.Refusals.{panel_lines, panel_refusal}
use Rattle.limits.specs.Asked.{minute_refusal}
use Rattle.refusals.proofs.FirstLine.{left_by_table}
use Rattle.limits.proofs.Minutes.{late}
use Rattle.charring.specs.Rates.{failure_of, intact_end, first_end, bond_lines}
use Rattle.charring.specs.Way.{way}
use Rattle.charring.specs.Depths.{char_at, round_up}
use Rattle.builds.proofs.SharedDepths.{char_shared, tenths_shared}
use Rattle.phases.specs.Phases.{phase_at}
use Rattle.phases.specs.Answers.{
  table_refusal,
  phase_answer,
  char_answer,
  effective_answer,
  depth_table,
  table_answer,
  table_after,
}
use Rattle.phases.proofs.Replies.{short}
use Rattle.phases.proofs.Unused.{phase_same, table_same}

-- Phases at every time, and the table

module _ (a b : Panel) (h : SameBuild a b) where
  pub phase_shared : (n q : ℕ) → phase_at a n q ≡ phase_at b n q
  unfolding phase_at char_at way first_end intact_end failure_of bond_lines
  phase_shared n q = same_shared (λ (p : Panel). phase_at p n q) (λ p r k. phase_same p r k n q) (λ p version strength moment. refl) a b h

  pub table_shared : depth_table a ≡ depth_table b
  unfolding depth_table char_at way first_end intact_end failure_of bond_lines
  table_shared = same_shared depth_table table_same (λ p version strength moment. refl) a b h

-- Answers, where neither panel is refused

-- further lines decide alike
further_alike :
    (a b : Panel) → panel_refusal a ≡ 0 → panel_refusal b ≡ 0 → (further : List Line)
    → refusal (panel_lines a ++ further) ≡ refusal (panel_lines b ++ further)
unfolding panel_refusal
further_alike a b e f further =
    sym (left_by_table (panel_lines a) further tt refl e refl) ∙ left_by_table (panel_lines b) further tt refl f refl

module _ (a b : Panel) (e : panel_refusal a ≡ 0) (f : panel_refusal b ≡ 0) (h : SameBuild a b) where
  minute_alike : (minute : ℕ) → minute_refusal a minute ≡ minute_refusal b minute
  unfolding minute_refusal
  minute_alike minute = further_alike a b e f (late minute)

  space_alike : (space : List ℕ) → table_refusal a space ≡ table_refusal b space
  unfolding table_refusal
  space_alike space = further_alike a b e f (short space)

  pub phase_answers_shared : (minute : ℕ) → phase_answer a minute ≡ phase_answer b minute
  unfolding phase_answer
  phase_answers_shared minute =
      λ i. unless_refused (minute_alike minute i) (phase_shared (shown a) (shown b) (shown_build a b h) minute 1 i)

  pub char_answers_shared : (minute : ℕ) → char_answer a minute ≡ char_answer b minute
  unfolding char_answer
  char_answers_shared minute =
      λ i. unless_refused (minute_alike minute i)
      (round_up (char_shared (shown a) (shown b) (shown_build a b h) minute 1 i) (2000000 * 1))

  pub effective_answers_shared : (minute : ℕ) → effective_answer a minute ≡ effective_answer b minute
  unfolding effective_answer
  effective_answers_shared minute =
      λ i. unless_refused (minute_alike minute i) (tenths_shared (shown a) (shown b) (shown_build a b h) minute 1 i)

  pub table_answers_shared : (space : List ℕ) → table_answer a space ≡ table_answer b space
  unfolding table_answer
  table_answers_shared space = rw (space_alike space) refl

  pub table_after_shared : (space : List ℕ) → table_after a space ≡ table_after b space
  unfolding table_after
  table_after_shared space =
      λ i. answer (space_alike space i) (λ (n : ℕ). space) (table_shared (shown a) (shown b) (shown_build a b h) i ++ drop 361 space)

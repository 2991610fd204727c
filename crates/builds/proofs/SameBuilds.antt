-- What the answer of `same_build` says of two panels (document 02, 2/14 and 3/14): exactly when they are the same build, that panels with
-- other boards or lamellae or another face are different, that version, strength and moment do not matter, and that the same build is an
-- equivalence, so that panels of one build can share a card number.
use Prim.Native.Nat.{ℕ, zero, suc}
use mathlib.Core.Path.{◌≡◌, refl, sym}
use mathlib.Core.Logic.{◌↔◌}
use mathlib.Core.Bool.{Bool, true, false}
use Rattle.numbers.proofs.Booleans.{and_left, not_both}
use Rattle.panel.specs.declared.Panel.{Panel}
use Rattle.panel.specs.Boards.{boards_of}
use Rattle.panel.specs.Lamellae.{lamellae}
use Rattle.builds.specs.Builds.{same_layers, same_numbers, same_build, SameBuild, with_uncompared}
use Rattle.builds.proofs.Builds.{same_exactly, build_reflexive, build_symmetric, build_transitive}
use Rattle.std.specs.Prelude.{Ok, Err}
use Rattle.refusals.specs.Lines.{answer, unless_refused}
use Rattle.refusals.specs.Refusals.{panel_refusal}
use Rattle.builds.specs.Answers.{compared, build_answer}
use Rattle.refusals.proofs.FirstLine.{accepted_with}

module _ (same : Panel → Panel → Bool) (t : Bool) (a b : Panel) where
  compared_says : compared same a b ≡ Ok t → (panel_refusal a ≡ 0) × ((panel_refusal b ≡ 0) × (same a b ≡ t))
  unfolding compared
  compared_says e = go (panel_refusal a) refl e
    where
      go : (n : ℕ) → panel_refusal a ≡ n → answer n Err (unless_refused (panel_refusal b) (same a b)) ≡ Ok t → (panel_refusal a ≡ 0) × ((panel_refusal b ≡ 0) × (same a b ≡ t))
      go zero z e = let h = accepted_with (sym e) in (z, (h.0, sym h.1))
      go (suc n) z e = cc

  compared_so : panel_refusal a ≡ 0 → panel_refusal b ≡ 0 → same a b ≡ t → compared same a b ≡ Ok t
  unfolding compared
  compared_so e f s = rw (e, f, s)

-- "EXACTLY WHEN": `true` of accepted panels whose boards and lamellae are equal, as lists, and whose face, bond, rate, gap and failure time
-- are; `false` of accepted panels of which that does not hold

module _ (a b : Panel) where
  pub same_when : (build_answer a b ≡ Ok true) ↔ ((panel_refusal a ≡ 0) × ((panel_refusal b ≡ 0) × SameBuild a b))
  same_when = (
    (λ e. let says = compared_says same_build true a b e in (says.0, (says.1.0, (same_exactly a b).0 says.1.1))),
    λ h. compared_so same_build true a b h.0 h.1.0 ((same_exactly a b).1 h.1.1),
  )

  pub different_when : (build_answer a b ≡ Ok false) ↔ ((panel_refusal a ≡ 0) × ((panel_refusal b ≡ 0) × (SameBuild a b → ⊥)))
  different_when = (
    (λ e.
        let says = compared_says same_build false a b e in
        (says.0, (says.1.0, λ s. not_both (same_build a b) ((same_exactly a b).1 s) says.1.1))),
    λ h. compared_so same_build false a b h.0 h.1.0 (fails h.1.1 (same_build a b) refl),
  )
    where
      fails : (SameBuild a b → ⊥) → (t : Bool) → same_build a b ≡ t → same_build a b ≡ false
      fails not true e = absurd (not ((same_exactly a b).0 e))
      fails not false e = e

  -- "Panels that were different stay different"

  -- whose boards or lamellae differ, are different
  pub other_layers :
      panel_refusal a ≡ 0 → panel_refusal b ≡ 0 → (boards_of a.cladding ≡ boards_of b.cladding → lamellae a ≡ lamellae b → ⊥)
      → build_answer a b ≡ Ok false
  other_layers e f differ = different_when.1 (e, (f, λ s. differ s.boards s.lamellae))

  -- different by boards and lamellae alone is different
  pub stay_different : compared same_layers a b ≡ Ok false → build_answer a b ≡ Ok false
  stay_different e =
      let says = compared_says same_layers false a b e in
      compared_so same_build false a b says.0 says.1.0 (rw says.1.1)

  -- and the same build is the same by these alone
  pub same_by_layers : build_answer a b ≡ Ok true → compared same_layers a b ≡ Ok true
  same_by_layers e =
      let says = compared_says same_build true a b e in
      compared_so same_layers true a b says.0 says.1.0 (and_left (same_layers a b) (same_numbers a b) says.1.1)

  -- "Panels of different face are different builds", a symmetrical panel and the same turned too
  pub other_face : panel_refusal a ≡ 0 → panel_refusal b ≡ 0 → (a.face ≡ b.face → ⊥) → build_answer a b ≡ Ok false
  other_face e f differ = different_when.1 (e, (f, λ s. differ s.face))

-- "the version isn't looked at", nor are strength and moment
pub uncompared_same :
    (p : Panel) (version strength moment : ℕ) → panel_refusal p ≡ 0 → panel_refusal (with_uncompared p version strength moment) ≡ 0
    → build_answer p (with_uncompared p version strength moment) ≡ Ok true
uncompared_same p version strength moment e f =
    (same_when p (with_uncompared p version strength moment)).1
    (e, (f, record { boards = refl; lamellae = refl; face = refl; bond = refl; rate = refl; gap = refl; failure_time = refl }))

-- Of accepted panels the same build is an equivalence

pub same_reflexive : (p : Panel) → panel_refusal p ≡ 0 → build_answer p p ≡ Ok true
same_reflexive p e = (same_when p p).1 (e, (e, build_reflexive p))

pub same_symmetric : (a b : Panel) → build_answer a b ≡ Ok true → build_answer b a ≡ Ok true
same_symmetric a b e =
    let h = (same_when a b).0 e in
    (same_when b a).1 (h.1.0, (h.0, build_symmetric a b h.1.1))

pub same_transitive : (a b c : Panel) → build_answer a b ≡ Ok true → build_answer b c ≡ Ok true → build_answer a c ≡ Ok true
same_transitive a b c e f =
    let h = (same_when a b).0 e in
    let k = (same_when b c).0 f in
    (same_when a c).1 (h.0, (k.1.0, build_transitive a b c h.1.1 k.1.1))

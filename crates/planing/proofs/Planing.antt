-- "Find the smallest number of tenths of mm that, taken off one lamella alone, lowers the REI grade": the search finds it, it is sound, least
-- and nearest the fire, none is answered only where no allowed cut lowers the grade, and there is one such answer.
use Prim.Native.Nat.{ℕ, suc, ◌≤◌, ◌<◌}
use mathlib.Core.Path.{◌≡◌, refl, sym, ap, ap₂, ◌∙◌}
use mathlib.Core.Bool.{Bool, true, false, ◌&&◌}
use mathlib.Core.Logic.{◌⊎◌, inl, inr}
use native.Mathlib.Omega.{arith}
use native.Mathlib.Decide.{dec_lt}
use native.Mathlib.Nat.{le_antisymm}
use borrow.Author.Tests.{ltb-true, ltb-false, lt-ltb}
use lib.Dec.{ltb}
use Rattle.std.specs.Prelude.{Option, Some, None, Ok}
use Rattle.numbers.proofs.Booleans.{and_left, and_right, not_both}
use Rattle.numbers.proofs.LeastKept.{least_keeps, least_before}
use Rattle.panel.specs.declared.Panel.{Panel}
use Rattle.refusals.specs.Refusals.{panel_refusal}
use Rattle.ratings.specs.Answers.{rei_grade}
use Rattle.planing.specs.declared.Cut.{Cut}
use Rattle.planing.specs.Cuts.{cut_panel, allowed, lowers}
use Rattle.planing.specs.LeastCut.{NearerOn, LoweringCut, IsLeastCut, NoneLowers, IsPlaning}
use Rattle.planing.specs.Answers.{place_on, cut_behind, lowering, first_behind, most_cut, least_tenths, planing_if, planing_of, planing_answer}
use Rattle.planing.proofs.CutPanels.{cut_meets, allowed_within}
use Rattle.planing.proofs.FromFire.{Behind, place_behind, nearer_fewer, none_nearer}

lowering_means : (p : Panel) (c : Cut) → lowering p c ≡ true → LoweringCut p c
lowering_means p c e = record { allowed = and_left (allowed p c) (lowers p c) e; lowers = and_right (allowed p c) (lowers p c) e }

means_lowering : (p : Panel) (c : Cut) → LoweringCut p c → lowering p c ≡ true
means_lowering p c h = ap₂ (λ (x y : Bool). x && y) h.allowed h.lowers

-- a cut is what is taken off at its own place
same_cut : (c : Cut) (place : ℕ) → place ≡ c.place → record { place = place; tenths = c.tenths } ≡ c
same_cut c place e = λ i. record { place = e i; tenths = c.tenths }

module _ (p : Panel) (e : panel_refusal p ≡ 0) where
  -- the lamella of an allowed cut, counted from the fire
  behind : (c : Cut) → LoweringCut p c → Behind p.face p.count c.place
  behind c h =
      let within = allowed_within p c e h.allowed in
      place_behind p.face p.count c.place within.first within.last

  -- such a cut is seen by the search
  seen : (c : Cut) (h : LoweringCut p c) → lowering p (cut_behind p c.tenths (behind c h).others) ≡ true
  seen c h = ap (lowering p) (same_cut c _ (behind c h).here) ∙ means_lowering p c h

  -- so for its tenths a lamella is found, behind no more than its own
  found : (c : Cut) (h : LoweringCut p c) → first_behind p c.tenths ≤ (behind c h).others
  unfolding first_behind
  found c h = go (dec_lt (behind c h).others (first_behind p c.tenths))
    where
      test : ℕ → Bool
      test others = lowering p (cut_behind p c.tenths others)

      go : Dec ((behind c h).others < first_behind p c.tenths) → first_behind p c.tenths ≤ (behind c h).others
      go (yes before) = absurd (not_both _ (seen c h) (least_before test p.count (behind c h).others before))
      go (no after) = omega arith

  -- and its tenths are no fewer than the least
  no_less : (c : Cut) → LoweringCut p c → least_tenths p ≤ c.tenths
  unfolding least_tenths
  no_less c h = go (dec_lt c.tenths (least_tenths p))
    where
      go : Dec (c.tenths < least_tenths p) → least_tenths p ≤ c.tenths
      go (yes before) =
          let first = found c h in
          let fewer = (behind c h).fewer in
          absurd
          (not_both _ (lt-ltb (first_behind p c.tenths) p.count (omega arith))
          (least_before (λ (tenths : ℕ). ltb (first_behind p tenths) p.count) (suc most_cut) c.tenths before))
      go (no after) = omega arith

  is_least : least_tenths p < suc most_cut → IsLeastCut p (cut_behind p (least_tenths p) (first_behind p (least_tenths p)))
  unfolding least_tenths first_behind
  is_least h =
      let first = ltb-true _ _ (least_keeps (λ (tenths : ℕ). ltb (first_behind p tenths) p.count) (suc most_cut) h) in
      record {
        lowering = lowering_means p _ (least_keeps (λ (others : ℕ). lowering p (cut_behind p (least_tenths p) others)) p.count first);
        least = no_less;
        nearest = λ d low same nearer. not_nearer d low same nearer first;
      }
    where
      not_nearer : (d : Cut) (low : LoweringCut p d) → d.tenths ≡ least_tenths p
          → NearerOn p.face d.place (place_on p.face p.count (first_behind p (least_tenths p)))
          → first_behind p (least_tenths p) < p.count → ⊥
      not_nearer d low same nearer first =
          let b = behind d low in
          let fewer = nearer_fewer p.face p.count b.others (first_behind p (least_tenths p)) b.fewer first (rw b.here nearer) in
          omega (arith, found d low, ap (first_behind p) same)

  none_lowers : suc most_cut ≤ least_tenths p → NoneLowers p
  none_lowers h c low =
      let least = no_less c low in
      let most = (allowed_within p c e low.allowed).most in
      let z : ⊥ = omega arith in z

  -- THE THEOREM: the answer is what the paper asks for
  pub planing_is : IsPlaning p (planing_of p)
  unfolding planing_of
  planing_is = go (ltb (least_tenths p) (suc most_cut)) refl
    where
      go : (b : Bool) → ltb (least_tenths p) (suc most_cut) ≡ b
          → IsPlaning p (planing_if b (cut_behind p (least_tenths p) (first_behind p (least_tenths p))))
      go true h = is_least (ltb-true (least_tenths p) (suc most_cut) h)
      go false h = none_lowers (ltb-false (least_tenths p) (suc most_cut) h)

  -- as it is answered
  pub answer_is : (found : Option Cut) × ((planing_answer p ≡ Ok found) × IsPlaning p found)
  unfolding planing_answer
  answer_is = (planing_of p, (rw e refl, planing_is))

  -- the grade of the cut panel that an answer names is below the panel's, or it meets 13
  pub grade_falls : (c : Cut) → IsLeastCut p c
      → (panel_refusal (cut_panel p c) ≡ 13) ⊎ ((panel_refusal (cut_panel p c) ≡ 0) × ((rei_grade (cut_panel p c)).minutes < (rei_grade p).minutes))
  grade_falls c h = go (cut_meets p c e h.lowering.allowed) h.lowering.lowers
    where
      go : (panel_refusal (cut_panel p c) ≡ 0) ⊎ (panel_refusal (cut_panel p c) ≡ 13) → lowers p c ≡ true
          → (panel_refusal (cut_panel p c) ≡ 13) ⊎ ((panel_refusal (cut_panel p c) ≡ 0) × ((rei_grade (cut_panel p c)).minutes < (rei_grade p).minutes))
      go (inl accepted) low = inr (accepted, ltb-true _ _ (rw accepted at low))
      go (inr thirteen) low = inl thirteen

-- there is one such answer
pub planing_unique : (p : Panel) (a b : Option Cut) → IsPlaning p a → IsPlaning p b → a ≡ b
planing_unique p (Some c) (Some d) h k =
    let same : c.tenths ≡ d.tenths = le_antisymm (h.least _ k.lowering) (k.least _ h.lowering) in
    ap₂ (λ (place tenths : ℕ). Some (record { place = place; tenths = tenths }))
    (none_nearer p.face c.place d.place (k.nearest _ h.lowering same) (h.nearest _ k.lowering (sym same))) same
planing_unique p (Some c) None h k = absurd (k _ h.lowering)
planing_unique p None (Some d) h k = absurd (h _ k.lowering)
planing_unique p None None h k = refl

-- Where the first run ends, by the lines passed before t_f: the definition keeps its rule, and the rule fixes it.
use Prim.Native.Nat.{ℕ, ◌*◌, ◌≤◌, ◌<◌, min}
use mathlib.Core.Path.{◌≡◌, refl, sym, ap, ◌∙◌}
use mathlib.Core.List.Memᴰ
use mathlib.Core.List.{List, [], ◌∷◌, Memᴰ}
use mathlib.Core.Logic.{◌⊎◌, inl, inr}
use mathlib.Core.Bool.{Bool, true, false}
use native.Mathlib.Omega.{arith}
use native.Mathlib.Decide.{dec_lt}
use borrow.Author.Tests.{eq-eqb, ne_eqb}
use Rattle.panel.specs.declared.Panel.{Panel}
use Rattle.refusals.specs.Refusals.{panel_refusal}
use Rattle.charring.specs.Rates.{start_of, failure_of, clad, back_face, depth_at_failure, bond_lines, line_end, intact_end, passed_end, first_end}
use Rattle.charring.specs.Depths.{char_at}
use Rattle.charring_stated.specs.Charring.{IsIntactEnd, IsFirstEnd, NonePassed, DeepestPassed}
use Rattle.charring.proofs.DepthParts.{under_full}
use Rattle.charring.proofs.FirstRun.{none_passed, deepest_passed}
use Rattle.charring_stated.proofs.PhaseLaws.{char_until_failure}
use Rattle.charring_stated.proofs.Lines.{lines_deeper, deeper_short}

-- The char depth at t_f

pub char_at_failure :
    (p : Panel) (n q : ℕ) → 1000 * n ≡ q * failure_of p → char_at p n q ≡ min (2 * q * depth_at_failure p) (2 * q * back_face p)
char_at_failure p n q time =
    char_until_failure p n q (omega arith) ∙ ap (λ (a : ℕ). min a (2 * q * back_face p)) (under_full p n q (omega arith))

module _ (p : Panel) (accepted : panel_refusal p ≡ 0) where
  abbrev pub deep_at_failure : ℕ
  deep_at_failure = char_at p (failure_of p) 1000

  -- a line is passed exactly when it is short of that
  pub passed_short : (l : ℕ) → 2000 * l < deep_at_failure → l < depth_at_failure p
  passed_short l h = numbers (depth_at_failure p) (back_face p) l deep_at_failure (char_at_failure p (failure_of p) 1000 refl) h
    where
      numbers : (d b l c : ℕ) → c ≡ min (2 * 1000 * d) (2 * 1000 * b) → 2000 * l < c → l < d
      numbers d b l c e h = omega arith

  pub ahead_deep : (l : ℕ) → Memᴰ l (bond_lines p) → deep_at_failure ≤ 2000 * l → depth_at_failure p ≤ l
  ahead_deep l m h =
      numbers (depth_at_failure p) (back_face p) l deep_at_failure (char_at_failure p (failure_of p) 1000 refl) h
      (deeper_short (lines_deeper p accepted) l m)
    where
      numbers : (d b l c : ℕ) → c ≡ min (2 * 1000 * d) (2 * 1000 * b) → c ≤ 2000 * l → l < b → d ≤ l
      numbers d b l c e h k = omega arith

  pub intact_end_lem : NonePassed deep_at_failure (bond_lines p) → first_end p ≡ intact_end p
  intact_end_lem none = none_passed p (λ l m. ahead_deep l m (none l m))

  pub deepest_end : (l : ℕ) (below : List ℕ) → DeepestPassed deep_at_failure (bond_lines p) l below → first_end p ≡ line_end l below
  unfolding first_end
  deepest_end l below d =
      ap (passed_end (depth_at_failure p) (intact_end p)) d.split
      ∙ deepest_passed (depth_at_failure p) (intact_end p) d.above l below (passed_short l d.passed)
      (λ m i. ahead_deep m (rw d.split (Memᴰ.append_right d.above (Memᴰ.tail i))) (d.rest m i))

  intact_rule : (end : ℕ) → end ≡ intact_end p → IsIntactEnd p end
  unfolding intact_end
  intact_rule end is =
      record {
        at_once = λ c e. is ∙ rw (c, eq-eqb (start_of p) (failure_of p) e);
        later = λ c l. is ∙ rw (c, ne_eqb (start_of p) (failure_of p) (λ e. let z : ⊥ = omega arith in z));
        unclad = λ c. is ∙ rw c;
      }

  pub first_end_lem : IsFirstEnd p deep_at_failure (first_end p)
  first_end_lem = record { intact = λ none. intact_rule (first_end p) (intact_end_lem none); deepest = deepest_end }

-- The rule fixes the end

-- no line was passed, or one is the deepest
pub data DeepestOrNone (deep : ℕ) (lines : List ℕ) : Type 0 where
  none_of : NonePassed deep lines → DeepestOrNone deep lines
  deepest_of : (l : ℕ) (below : List ℕ) → DeepestPassed deep lines l below → DeepestOrNone deep lines

pub deepest_or_none : (deep : ℕ) (lines : List ℕ) → DeepestOrNone deep lines
deepest_or_none deep [] = none_of (λ l m. absurd (Memᴰ.not-nil m))
deepest_or_none deep (line ∷ lines) = go (deepest_or_none deep lines) (dec_lt (2000 * line) deep)
  where
    go : DeepestOrNone deep lines → Dec (2000 * line < deep) → DeepestOrNone deep (line ∷ lines)
    go (deepest_of l below d) _ =
        deepest_of l below
        (record { above = line ∷ d.above; split = ap (λ (ls : List ℕ). line ∷ ls) d.split; passed = d.passed; rest = d.rest })
    go (none_of rest) (yes h) = deepest_of line lines (record { above = []; split = refl; passed = h; rest = rest })
    go (none_of rest) (no h) = none_of (λ l m. by_place l (Memᴰ.cases_cons m))
      where
        by_place : (l : ℕ) → (l ≡ line) ⊎ Memᴰ l lines → deep ≤ 2000 * l
        by_place l (inl e) = omega arith
        by_place l (inr m) = rest l m

intact_fixed : (p : Panel) (a b : ℕ) → start_of p ≤ failure_of p → IsIntactEnd p a → IsIntactEnd p b → a ≡ b
intact_fixed p a b order h k = go (clad p.cladding) refl (dec_lt (start_of p) (failure_of p))
  where
    go : (t : Bool) → clad p.cladding ≡ t → Dec (start_of p < failure_of p) → a ≡ b
    go false c d = h.unclad c ∙ sym (k.unclad c)
    go true c (yes l) = h.later c l ∙ sym (k.later c l)
    go true c (no l) =
        let e : start_of p ≡ failure_of p = omega arith in
        h.at_once c e ∙ sym (k.at_once c e)

pub first_fixed : (p : Panel) (deep a b : ℕ) → start_of p ≤ failure_of p → IsFirstEnd p deep a → IsFirstEnd p deep b → a ≡ b
first_fixed p deep a b order h k = go (deepest_or_none deep (bond_lines p))
  where
    go : DeepestOrNone deep (bond_lines p) → a ≡ b
    go (none_of rest) = intact_fixed p a b order (h.intact rest) (k.intact rest)
    go (deepest_of l below d) = h.deepest l below d ∙ sym (k.deepest l below d)

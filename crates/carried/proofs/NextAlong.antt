-- The search for the next lamella along: what is sought stays the same from lamella to lamella. Assumes nothing.
use Prim.Native.Nat.{ℕ, ◌+◌, suc, ◌≤◌, ◌<◌}
use mathlib.Core.Path.{◌≡◌, refl, sym, ap, ◌∙◌}
use mathlib.Core.Bool.{Bool, true, false}
use mathlib.Core.List.{List, [], ◌∷◌}
use native.Mathlib.Numerals.{add-one}
use native.Mathlib.Omega.{arith}
use lib.ListN.{length, get_or, drop}
use lib.Seq.{drop-cons}
use Rattle.std.proofs.lemmas.List.{drop_all}
use borrow.Author.Tests.{eq-eqb, ne_eqb}
use Rattle.panel.specs.Lamellae.{Lamella, lamella, along, thickness}
use Rattle.std.specs.Prelude.{Some, None, cond, unwrap_or}
use Rattle.numbers.specs.Choice.{pick}
use Rattle.carried.specs.Carried.{first_along}
use Rattle.carried.specs.Carrying.{next_along}

-- the code's answer, and 0 for none, is where the first lamella along begins by the definition
pub next_is_first : (top : ℕ) (ls : List Lamella) → first_along top ls ≡ unwrap_or (next_along top ls) 0
unfolding first_along next_along
next_is_first top [] = refl
next_is_first top (l ∷ ls) = go (along l) (next_is_first (top + l.thickness) ls)
  where
    go : (b : Bool) → first_along (top + l.thickness) ls ≡ unwrap_or (next_along (top + l.thickness) ls) 0
        → pick b top (first_along (top + l.thickness) ls) ≡ unwrap_or (cond b (Some top) (next_along (top + l.thickness) ls)) 0
    go true deeper = refl
    go false deeper = deeper

module _ (ls : List Lamella) (top : ℕ) where
  -- of lamellae the first of which begins at top, those that come before i, which is at `at`, are not along
  pub record Sought (i at : ℕ) : Type 0 where
    pub within : at + thickness (drop i ls) ≤ 4000
    pub same : next_along top ls ≡ next_along at (drop i ls)

  rest_of : (i : ℕ) (l : Lamella) → i < length ls → get_or ls i (lamella 0 0) ≡ l → drop i ls ≡ l ∷ drop (i + 1) ls
  rest_of i l h here =
      rw (add-one i) (drop-cons ls i (lamella 0 0) h ∙ ap (λ (x : Lamella). x ∷ drop (suc i) ls) here)

  pub sought_more : (i at : ℕ) (l : Lamella) → Sought i at → i < length ls → get_or ls i (lamella 0 0) ≡ l → (l.direction ≡ 1 → ⊥)
      → Sought (i + 1) (at + l.thickness)
  unfolding next_along thickness
  sought_more i at l s h here across =
      let rest = rest_of i l h here in
      let less = ap thickness rest in
      record {
        within = omega (arith, s.within);
        same = s.same ∙ ap (next_along at) rest ∙ rw (ne_eqb l.direction 1 across);
      }

  -- its thickness fits
  pub sought_fits : (i at : ℕ) (l : Lamella) → Sought i at → i < length ls → get_or ls i (lamella 0 0) ≡ l → at + l.thickness ≤ 4000
  unfolding thickness
  sought_fits i at l s h here =
      let less = ap thickness (rest_of i l h here) in
      omega (arith, s.within)

  pub sought_found : (i at : ℕ) (l : Lamella) → Sought i at → i < length ls → get_or ls i (lamella 0 0) ≡ l → l.direction ≡ 1
      → Some at ≡ next_along top ls
  unfolding next_along
  sought_found i at l s h here along = sym (s.same ∙ ap (next_along at) (rest_of i l h here) ∙ rw (eq-eqb l.direction 1 along))

  pub sought_none : (i at : ℕ) → Sought i at → length ls ≤ i → None ≡ next_along top ls
  unfolding next_along
  sought_none i at s all = sym (s.same ∙ ap (next_along at) (drop_all i ls all))

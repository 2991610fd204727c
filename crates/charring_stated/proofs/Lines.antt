-- The bond lines of a panel: where they are, and that in an accepted panel each is deeper than the one before and short of the back face.
use Prim.Native.Nat.{ℕ, zero, suc, ◌+◌, ◌*◌, ◌≤◌, ◌<◌}
use mathlib.Core.Path.{◌≡◌, refl, ap, ◌∙◌, sym, subst}
use mathlib.Core.List.{List, [], ◌∷◌, ◌++◌, Memᴰ}
use mathlib.Core.List.Memᴰ
use mathlib.Core.Logic.{◌↔◌, ◌⊎◌, inl, inr}
use mathlib.Core.Bool.{Bool, true, false}
use native.Mathlib.Omega.{arith}
use native.Mathlib.Decide.{dec_lt}
use lib.Dec.{eqb}
use lib.ListN.{get_or}
use borrow.Author.Tests.{eqb-true, eq-eqb}
use Rattle.numbers.specs.Firsts.{firsts}
use Rattle.panel.specs.declared.Panel.{Panel}
use Rattle.panel.specs.Lamellae.{Lamella, lamella, lamellae, lamellae_of, thickness}
use Rattle.refusals.specs.Refusals.{panel_refusal}
use Rattle.limits.specs.Keeps.{LamellaeKeep}
use Rattle.panel.proofs.Used.{thickness_more, thickness_prefix}
use Rattle.limits.proofs.Accepted.{accepted_keeps, lamella_keeps}
use Rattle.charring.specs.Rates.{tenth, back_face, lines_from, bond_lines, line_end}
use Rattle.charring_stated.specs.Charring.{IsBondLine, Deeper, face, next}

-- an accepted panel has some thickness
pub thick : (p : Panel) → panel_refusal p ≡ 0 → 0 < thickness (lamellae p)
thick p e =
    let k = accepted_keeps p e in
    omega (
      arith,
      (lamella_keeps p k 0 k.count_least).thickness.least,
      thickness_more p.directions p.thicknesses 0,
      thickness_prefix p.directions p.thicknesses 1 p.count k.count_least,
    )

-- Where they are

-- one lamella more adds the line above it
lines_more :
    (top : ℕ) (l : Lamella) (ls : List Lamella) (m : Lamella) (x : ℕ) → x ≡ top + tenth * thickness (l ∷ ls)
    → lines_from top (l ∷ (ls ++ (m ∷ []))) ≡ lines_from top (l ∷ ls) ++ (x ∷ [])
unfolding lines_from thickness
lines_more top l [] m x e = ap (λ (y : ℕ). y ∷ []) (omega arith)
lines_more top l (k ∷ ls) m x e =
    let next : ℕ = top + tenth * l.thickness in
    ap (λ (xs : List ℕ). next ∷ xs) (lines_more next k ls m x (omega arith))

module _ (gs ts : List ℕ) where
  depth : ℕ → ℕ
  depth i = tenth * thickness (lamellae_of gs ts i)

  -- the line below the first i + 1 of n lamellae and more
  record Inner (n l : ℕ) : Type 0 where
    place : ℕ
    inner : place + 1 < n
    deep : l ≡ depth (place + 1)

  lines_next : (n : ℕ) → lines_from 0 (lamellae_of gs ts (suc (suc n))) ≡ lines_from 0 (lamellae_of gs ts (suc n)) ++ (depth (suc n) ∷ [])
  unfolding depth lamellae_of firsts
  lines_next n = go (lamellae_of gs ts n)
    where
      at : ℕ → Lamella
      at i = lamella (get_or gs i 0) (get_or ts i 0)

      zero_first : (x : ℕ) → x ≡ 0 + x
      zero_first x = omega arith

      go :
          (ls : List Lamella)
          → lines_from 0 ((ls ++ (at n ∷ [])) ++ (at (suc n) ∷ []))
          ≡ lines_from 0 (ls ++ (at n ∷ [])) ++ (tenth * thickness (ls ++ (at n ∷ [])) ∷ [])
      go [] = lines_more 0 (at n) [] (at (suc n)) (tenth * thickness (at n ∷ [])) (zero_first _)
      go (l ∷ ls) = lines_more 0 l (ls ++ (at n ∷ [])) (at (suc n)) (tenth * thickness (l ∷ (ls ++ (at n ∷ [])))) (zero_first _)

  line_inner : (n l : ℕ) → Memᴰ l (lines_from 0 (lamellae_of gs ts n)) → Inner n l
  unfolding lines_from lamellae_of firsts
  line_inner zero l m = absurd (Memᴰ.not-nil m)
  line_inner (suc zero) l m = absurd (Memᴰ.not-nil m)
  line_inner (suc (suc n)) l m =
      go (Memᴰ.append_cases (lines_from 0 (lamellae_of gs ts (suc n))) (subst (Memᴰ l) (lines_next n) m)) (line_inner (suc n) l)
    where
      go :
          Memᴰ l (lines_from 0 (lamellae_of gs ts (suc n))) ⊎ Memᴰ l (depth (suc n) ∷ [])
          → (Memᴰ l (lines_from 0 (lamellae_of gs ts (suc n))) → Inner (suc n) l) → Inner (suc (suc n)) l
      go (inl k) before = let i = before k in record { place = i.place; inner = omega (arith, i.inner); deep = i.deep }
      go (inr k) before =
          record { place = n; inner = omega arith; deep = Memᴰ.eq_of_singleton k ∙ ap depth (let e : suc n ≡ n + 1 = omega arith in e) }

  inner_line : (n l : ℕ) → Inner n l → Memᴰ l (lines_from 0 (lamellae_of gs ts n))
  inner_line zero l i = absurd (let z : ⊥ = omega (arith, i.inner) in z)
  inner_line (suc zero) l i = absurd (let z : ⊥ = omega (arith, i.inner) in z)
  inner_line (suc (suc n)) l i =
      subst (Memᴰ l) (sym (lines_next n)) (go (dec_lt (i.place + 1) (suc n)) (inner_line (suc n) l))
    where
      go :
          Dec (i.place + 1 < suc n) → (Inner (suc n) l → Memᴰ l (lines_from 0 (lamellae_of gs ts (suc n))))
          → Memᴰ l (lines_from 0 (lamellae_of gs ts (suc n)) ++ (depth (suc n) ∷ []))
      go (yes h) before = Memᴰ.append_left _ (before (record { place = i.place; inner = h; deep = i.deep }))
      go (no h) before =
          let e : i.place + 1 ≡ suc n = omega (arith, i.inner) in
          Memᴰ.append_right (lines_from 0 (lamellae_of gs ts (suc n))) (Memᴰ.head (i.deep ∙ ap depth e))

-- THE LAW: a depth is a bond line exactly when the bond falls and it lies below the first lamellae, where more follow
pub bond_line_iff : (p : Panel) (l : ℕ) → Memᴰ l (bond_lines p) ↔ IsBondLine p l
unfolding bond_lines depth
bond_line_iff p l = (there (eqb p.bond 1) refl, back)
  where
    there :
        (b : Bool) → eqb p.bond 1 ≡ b → Memᴰ l (elim b as (λ _. List ℕ) [ true ↦ lines_from 0 (lamellae p) | false ↦ [] ])
        → IsBondLine p l
    there true e m =
        let i = line_inner p.directions p.thicknesses p.count l m in
        record { place = i.place; falls = eqb-true p.bond 1 e; inner = i.inner; deep = i.deep }
    there false e m = absurd (Memᴰ.not-nil m)

    back : IsBondLine p l → Memᴰ l (bond_lines p)
    back i =
        rw (bond_lines, eq-eqb p.bond 1 i.falls)
        (inner_line p.directions p.thicknesses p.count l
        (record { place = i.place; inner = i.inner; deep = i.deep }))

-- How deep they are

-- line 11: no lamella is below 10.0 mm
deeper_from :
    (top : ℕ) (ls : List Lamella) (back : ℕ) → LamellaeKeep ls → 0 < thickness ls → back ≡ top + tenth * thickness ls
    → Deeper top (lines_from top ls) back
unfolding lines_from thickness
deeper_from top [] back k h same = absurd (let z : ⊥ = omega arith in z)
deeper_from top (l ∷ []) back k h same = let i : top < back = omega arith in face i
deeper_from top (l ∷ m ∷ ls) back k h same =
    let i : top < top + tenth * l.thickness = omega (arith, k.0.thickness.least) in
    next i (deeper_from (top + tenth * l.thickness) (m ∷ ls) back k.1 (omega (arith, k.1.0.thickness.least)) (omega arith))

pub lines_deeper : (p : Panel) → panel_refusal p ≡ 0 → Deeper 0 (bond_lines p) (back_face p)
unfolding bond_lines
lines_deeper p e = go (eqb p.bond 1)
  where
    go : (b : Bool) → Deeper 0 (elim b as (λ _. List ℕ) [ true ↦ lines_from 0 (lamellae p) | false ↦ [] ]) (back_face p)
    go true = deeper_from 0 (lamellae p) (back_face p) (accepted_keeps p e).each (thick p e) (omega arith)
    go false = let k : 0 < back_face p = omega (arith, thick p e) in face k

pub deeper_back : {top back : ℕ} {ls : List ℕ} → Deeper top ls back → top < back
deeper_back (face h) = h
deeper_back (next h d) = let k = deeper_back d in omega arith

-- a line is deeper than what comes before it
pub deeper_line : {top back : ℕ} {ls : List ℕ} → Deeper top ls back → (l : ℕ) → Memᴰ l ls → top < l
deeper_line (face h) l m = absurd (Memᴰ.not-nil m)
deeper_line {top} (next {l = k} {ls = ls} h d) l m = go (Memᴰ.cases_cons m) (deeper_line d l)
  where
    go : (l ≡ k) ⊎ Memᴰ l ls → (Memᴰ l ls → k < l) → top < l
    go (inl e) later = omega arith
    go (inr m) later = let i = later m in omega arith

-- and so are those below it than it
pub deeper_after : {top back : ℕ} (above : List ℕ) {l : ℕ} {below : List ℕ} → Deeper top (above ++ (l ∷ below)) back → Deeper l below back
deeper_after [] (next h d) = d
deeper_after (a ∷ above) (next h d) = deeper_after above d

-- so its run is not empty
pub line_end_deeper : {l back : ℕ} {ls : List ℕ} → Deeper l ls back → l < line_end l ls
unfolding line_end
line_end_deeper (face h) = omega arith
line_end_deeper (next h d) = omega arith

-- a line is short of the back face
pub deeper_short : {top back : ℕ} {ls : List ℕ} → Deeper top ls back → (l : ℕ) → Memᴰ l ls → l < back
deeper_short (face h) l m = absurd (Memᴰ.not-nil m)
deeper_short {back = back} (next {l = k} {ls = ls} h d) l m = go (Memᴰ.cases_cons m) (deeper_short d l) (deeper_back d)
  where
    go : (l ≡ k) ⊎ Memᴰ l ls → (Memᴰ l ls → l < back) → k < back → l < back
    go (inl e) later short = omega arith
    go (inr m) later short = later m

-- the lines above a line are shallower
pub deeper_above :
    {top back : ℕ} (above : List ℕ) (l : ℕ) (below : List ℕ) → Deeper top (above ++ (l ∷ below)) back → (m : ℕ) → Memᴰ m above → m < l
deeper_above [] l below d m i = absurd (Memᴰ.not-nil i)
deeper_above (a ∷ above) l below (next h d) m i =
    go (Memᴰ.cases_cons i) (deeper_line d l (Memᴰ.append_right above (Memᴰ.head refl))) (deeper_above above l below d m)
  where
    go : (m ≡ a) ⊎ Memᴰ m above → a < l → (Memᴰ m above → m < l) → m < l
    go (inl e) k later = omega arith
    go (inr j) k later = later j

-- a line's run ends no deeper than any line below it
pub line_end_short : {l back : ℕ} {ls : List ℕ} → Deeper l ls back → (m : ℕ) → Memᴰ m ls → line_end l ls ≤ m
unfolding line_end
line_end_short (face h) m i = absurd (Memᴰ.not-nil i)
line_end_short {l} (next {l = k} {ls = ls} h d) m i = go (Memᴰ.cases_cons i) (deeper_line d m)
  where
    go : (m ≡ k) ⊎ Memᴰ m ls → (Memᴰ m ls → k < m) → line_end l (k ∷ ls) ≤ m
    go (inl e) later = omega arith
    go (inr j) later = omega (arith, later j)

-- Runs of layers: one more at the end, and the last by insulation.
use Prim.Native.Nat.{ℕ, suc, ◌+◌, ◌<◌, ◌≤◌, min}
use mathlib.Core.Path.{◌≡◌, refl, sym, ap, ◌∙◌}
use mathlib.Core.List.{List, [], ◌∷◌, ◌++◌, map, map-append, append_assoc}
use native.Mathlib.Numerals.{add-one}
use native.Mathlib.Omega.{arith}
use native.Mathlib.Decide.{dec_lt}
use lib.ListN.{get_or, length, take}
use Rattle.std.proofs.lemmas.List.{get_or-take, length-take-le}
use Rattle.numbers.proofs.FirstValues.{firsts_agree}
use Rattle.panel.specs.Lamellae.{lamella, lamellae_of}
use Rattle.basic_times.specs.declared.Role.{Role}
use Rattle.basic_times.specs.declared.Role.TheVariants.{Protection, Insulation}
use Rattle.layers.specs.Kept.{SameUpTo}
use Rattle.basic_times.specs.Rules.{parts_per_minute}
use Rattle.layers.specs.Layers.{Layer, lamella_layer, with_layer, with_layer_in, protected_after, sum_after_in}

protected_append : (s : ℕ) (xs ys : List Layer) → protected_after s (xs ++ ys) ≡ protected_after (protected_after s xs) ys
unfolding protected_after
protected_append s [] ys = refl
protected_append s (x ∷ xs) ys = protected_append (with_layer Protection s x) xs ys

-- all layers but the last by protection, the last by insulation
pub sum_last : (s : ℕ) (xs : List Layer) (x : Layer) → sum_after_in parts_per_minute s (xs ++ (x ∷ [])) ≡ with_layer Insulation (protected_after s xs) x
unfolding protected_after sum_after_in
sum_last s [] x = refl
sum_last s (y ∷ []) x = refl
sum_last s (y ∷ z ∷ xs) x = sum_last (with_layer Protection s y) (z ∷ xs) x

wood_more :
    (gs ts : List ℕ) (i : ℕ)
    → map lamella_layer (lamellae_of gs ts (suc i)) ≡ map lamella_layer (lamellae_of gs ts i) ++ (lamella_layer (lamella (get_or gs i 0) (get_or ts i 0)) ∷ [])
unfolding lamellae_of
wood_more gs ts i = map-append lamella_layer (lamellae_of gs ts i) (lamella (get_or gs i 0) (get_or ts i 0) ∷ [])

-- the lamellae of thicknesses that are lent alone
pub lamellae_lent :
    (gs ts : List ℕ) (n : ℕ) → n ≤ length ts → lamellae_of gs (take n ts) (length (take n ts)) ≡ lamellae_of gs ts n
unfolding lamellae_of
lamellae_lent gs ts n h =
    rw (length-take-le n ts h)
    (firsts_agree (λ (i : ℕ). lamella (get_or gs i 0) (get_or (take n ts) i 0)) (λ (i : ℕ). lamella (get_or gs i 0) (get_or ts i 0)) n
    (λ i l. ap (lamella (get_or gs i 0)) (get_or-take n ts i 0 l)))

-- one lamella more, by protection
pub protected_more :
    (s : ℕ) (gs ts : List ℕ) (i : ℕ)
    → protected_after s (map lamella_layer (lamellae_of gs ts (i + 1)))
    ≡ with_layer Protection (protected_after s (map lamella_layer (lamellae_of gs ts i))) (lamella_layer (lamella (get_or gs i 0) (get_or ts i 0)))
unfolding protected_after
protected_more s gs ts i =
    ap (λ (k : ℕ). protected_after s (map lamella_layer (lamellae_of gs ts k))) (add-one i)
    ∙ ap (protected_after s) (wood_more gs ts i)
    ∙ protected_append s (map lamella_layer (lamellae_of gs ts i)) (lamella_layer (lamella (get_or gs i 0) (get_or ts i 0)) ∷ [])

-- boards, then lamellae of which the last is lamella i
pub sum_of :
    (bs : List Layer) (gs ts : List ℕ) (i : ℕ)
    → sum_after_in parts_per_minute 0 (bs ++ map lamella_layer (lamellae_of gs ts (i + 1)))
    ≡ with_layer Insulation (protected_after (protected_after 0 bs) (map lamella_layer (lamellae_of gs ts i))) (lamella_layer (lamella (get_or gs i 0) (get_or ts i 0)))
sum_of bs gs ts i =
    let ws = map lamella_layer (lamellae_of gs ts i) in
    let x = lamella_layer (lamella (get_or gs i 0) (get_or ts i 0)) in
    ap (λ (k : ℕ). sum_after_in parts_per_minute 0 (bs ++ map lamella_layer (lamellae_of gs ts k))) (add-one i)
    ∙ ap (λ (l : List Layer). sum_after_in parts_per_minute 0 (bs ++ l)) (wood_more gs ts i)
    ∙ ap (sum_after_in parts_per_minute 0) (sym (append_assoc bs ws (x ∷ [])))
    ∙ sum_last 0 (bs ++ ws) x
    ∙ ap (λ (k : ℕ). with_layer Insulation k x) (protected_append 0 bs ws)

-- a sum only grows, so that layers behind one that is enough do not matter
grows : (role : Role) (s : ℕ) (x : Layer) → s ≤ with_layer role s x
unfolding with_layer_in
grows role s x = omega arith

pub more_up_to :
    (role : Role) (enough a b : ℕ) (x : Layer) → SameUpTo enough a b → SameUpTo enough (with_layer role a x) (with_layer role b x)
more_up_to role enough a b x same = go (dec_lt a enough)
  where
    go : Dec (a < enough) → SameUpTo enough (with_layer role a x) (with_layer role b x)
    go (yes less) =
        let e : a ≡ b = omega arith in
        ap (λ (s : ℕ). min (with_layer role s x) enough) e
    go (no most) = omega (arith, same, grows role a x, grows role b x)

pub enough_up_to :
    (role : Role) (enough a b : ℕ) (x : Layer) → enough ≤ a → SameUpTo enough a b → SameUpTo enough a (with_layer role b x)
enough_up_to role enough a b x most same = omega (arith, same, grows role b x)

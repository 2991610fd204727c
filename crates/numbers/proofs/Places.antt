-- The places of a list from one place on, as a list.
use Prim.Native.Nat.{ℕ, zero, suc, ◌+◌, min}
use mathlib.Core.Path.{◌≡◌, refl, sym, ap, ap₂, ◌∙◌}
use mathlib.Core.List.{List, [], ◌∷◌, ◌++◌}
use native.Mathlib.Numerals.{add-one}
use native.Mathlib.Omega.{arith}
use native.Mathlib.Nat.{add-zero, suc-add, zero-add, add_assoc}
use lib.ListN.{length, get_or, take, drop, replicate}
use lib.Seq.{get_or-drop}
use Rattle.numbers.specs.Bytes.{places}

pub get_or_cons : (x : ℕ) (l : List ℕ) (at : ℕ) → get_or (x ∷ l) (at + 1) 0 ≡ get_or l at 0
get_or_cons x l at = rw add-one

pub places_append : (b : List ℕ) (at w v : ℕ) → places b at (w + v) ≡ places b at w ++ places b (at + w) v
places_append b at zero v = ap₂ (places b) (sym (add-zero at)) (zero-add v)
places_append b at (suc w) v =
    ap (places b at) (suc-add w v)
    ∙ ap (λ (xs : List ℕ). get_or b at 0 ∷ xs)
    (places_append b (at + 1) w v
    ∙ ap (λ (k : ℕ). places b (at + 1) w ++ places b k v) (add_assoc at 1 w ∙ ap (λ (k : ℕ). at + k) (sym (add_one_left w))))
  where
    add_one_left : (k : ℕ) → suc k ≡ 1 + k
    add_one_left k = sym (suc-add 0 k ∙ ap suc (zero-add k))

pub places_drop : (b : List ℕ) (k at w : ℕ) → places (drop k b) at w ≡ places b (k + at) w
places_drop b k at zero = refl
places_drop b k at (suc w) =
    ap₂ (λ (x : ℕ) (xs : List ℕ). x ∷ xs) (get_or-drop k b at 0)
    (places_drop b k (at + 1) w ∙ ap (λ (m : ℕ). places b m w) (sym (add_assoc k at 1)))

pub places_cons : (x : ℕ) (l : List ℕ) (at w : ℕ) → places (x ∷ l) (at + 1) w ≡ places l at w
places_cons x l at zero = refl
places_cons x l at (suc w) = ap₂ (λ (y : ℕ) (ys : List ℕ). y ∷ ys) (get_or_cons x l at) (places_cons x l (at + 1) w)

-- all places of a list are the list
pub places_all : (b : List ℕ) → places b 0 (length b) ≡ b
places_all [] = refl
places_all (x ∷ l) = ap (λ (xs : List ℕ). x ∷ xs) (places_cons x l 0 (length l) ∙ places_all l)

places_nil : (at w : ℕ) → places [] at w ≡ replicate w 0
places_nil at zero = refl
places_nil at (suc w) = ap (λ (xs : List ℕ). 0 ∷ xs) (places_nil (at + 1) w)

padded : (l : List ℕ) (w : ℕ) → take (min (length l) w) l ++ drop (min (length l) w) (replicate w 0) ≡ places l 0 w
padded [] w = rw (let e : min 0 w ≡ 0 = omega arith in e) (sym (places_nil 0 w))
padded (x ∷ l) zero = rw (let e : min (suc (length l)) 0 ≡ 0 = omega arith in e) refl
padded (x ∷ l) (suc w) =
    let e : min (suc (length l)) (suc w) ≡ suc (min (length l) w) = omega arith in
    rw e (ap (λ (xs : List ℕ). x ∷ xs) (padded l w ∙ sym (places_cons x l 0 w)))

-- what there is of w bytes from a place on, with 0 after it
pub places_padded :
    (b : List ℕ) (at w : ℕ)
    → take (min (length (drop at b)) w) (drop at b) ++ drop (min (length (drop at b)) w) (replicate w 0) ≡ places b at w
places_padded b at w = padded (drop at b) w ∙ places_drop b at 0 w ∙ ap (λ (k : ℕ). places b k w) (add-zero at)

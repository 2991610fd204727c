-- Parts of a list from a place on, and stores that follow each other.
use Prim.Native.Nat.{ℕ, suc, ◌+◌, ◌-◌, ◌≤◌}
use mathlib.Core.Path.{◌≡◌, refl, sym, ap, ap₂, ◌∙◌}
use mathlib.Core.List.{List, [], ◌∷◌, ◌++◌, append-nil, append_assoc}
use native.Mathlib.Omega.{arith}
use native.Mathlib.Nat.{add-zero, zero-add, add-suc, suc-add}
use lib.ListN.{length, take, drop, set, length-drop}
use lib.Seq.{drop-drop, drop-length, take_all, sets, sets-eq}

-- the part from a on, as a slice is taken, is what drop leaves; kept as it is, since of the kit's crates bitflags alone has it
pub part_to_end : (l : List ℕ) (a : ℕ) → take (length l - a) (drop a l) ≡ drop a l
part_to_end l a = take_all (length l - a) (drop a l) (simp length-drop (omega arith))

-- stores that begin where others end are one run of stores
pub sets_then : (l : List ℕ) (i : ℕ) (vs : List ℕ) (j : ℕ) (ws : List ℕ) → j ≡ i + length vs → sets (sets l i vs) j ws ≡ sets l i (vs ++ ws)
sets_then l i [] j ws e = ap (λ (k : ℕ). sets l k ws) (e ∙ add-zero i)
sets_then l i (v ∷ vs) j ws e = sets_then (set l i v) (suc i) vs j ws (e ∙ add-suc i (length vs) ∙ sym (suc-add i (length vs)))

-- the same for lists that come one after the other: l₁ is l with stores from i on, l₂ is l₁ with stores from where these end
pub then_put :
    (l l₁ l₂ : List ℕ) (i : ℕ) (vs : List ℕ) (j : ℕ) (ws : List ℕ)
    → l₁ ≡ sets l i vs → j ≡ i + length vs → l₂ ≡ sets l₁ j ws → l₂ ≡ sets l i (vs ++ ws)
then_put l l₁ l₂ i vs j ws e₁ e e₂ = e₂ ∙ ap (λ (r : List ℕ). sets r j ws) e₁ ∙ sets_then l i vs j ws e

-- a part that is replaced by as many numbers: they are stored from its place on
pub part_stored :
    (l vs : List ℕ) (at k : ℕ) → k ≡ length vs → at + length vs ≤ length l → take at l ++ (vs ++ drop k (drop at l)) ≡ sets l at vs
part_stored l vs at k e h =
    ap (λ (r : List ℕ). take at l ++ (vs ++ r)) (drop-drop k at l ∙ ap (λ (m : ℕ). drop (at + m) l) e)
    ∙ sym (append_assoc (take at l) vs (drop (at + length vs) l)) ∙ sym (sets-eq vs l at h)

-- stores from the start of the rest of a list are stores from where the rest begins
pub rest_stored :
    (l ys vs : List ℕ) (at : ℕ) → at + length vs ≤ length l → ys ≡ sets (take (length l - at) (drop at l)) 0 vs
    → take at l ++ (ys ++ drop (length l - at) (drop at l)) ≡ sets l at vs
rest_stored l ys vs at h e =
    let rest : List ℕ = drop at l in
    let none : drop (length l - at) rest ≡ [] = ap (λ (k : ℕ). drop k rest) (sym (length-drop at l)) ∙ drop-length rest in
    let fits : 0 + length vs ≤ length rest = omega (arith, length-drop at l) in
    let stored : ys ≡ vs ++ drop (length vs) rest =
    e ∙ ap (λ (r : List ℕ). sets r 0 vs) (part_to_end l at) ∙ sets-eq vs rest 0 fits ∙ ap (λ (k : ℕ). vs ++ drop k rest) (zero-add (length vs)) in
    ap₂ (λ (r t : List ℕ). take at l ++ (r ++ t)) stored none
    ∙ ap (λ (r : List ℕ). take at l ++ r) (append-nil (vs ++ drop (length vs) rest)) ∙ part_stored l vs at (length vs) refl h

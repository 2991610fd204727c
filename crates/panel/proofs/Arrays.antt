-- Arrays of nine that are filled lamella by lamella.
use Prim.Native.Nat.{ℕ, suc, ◌+◌, ◌-◌, ◌<◌}
use mathlib.Core.Path.{◌≡◌, sym, ap, ◌∙◌}
use mathlib.Core.List.{List, [], ◌∷◌, ◌++◌, map, map-append, append_assoc}
use native.Mathlib.Omega.{arith}
use native.Mathlib.Numerals.{add-one}
use lib.ListN.{length, set, replicate, length-append, length-map}
use lib.Seq.{set_at}
use Rattle.numbers.specs.Firsts.{firsts}
use Rattle.numbers.proofs.FirstValues.{length_firsts}
use Rattle.panel.specs.Lamellae.{Lamella, nine}

-- the next place of an array of nine
nine_more : (xs : List ℕ) (i x : ℕ) → length xs ≡ i → i < 9 → set (nine xs) i x ≡ nine (xs ++ (x ∷ []))
nine_more xs i x e h =
    let k : 9 - length xs ≡ suc (9 - (length xs + 1)) = omega arith in
    ap (λ (m : ℕ). set (xs ++ replicate m 0) i x) k
    ∙ set_at xs 0 (replicate (9 - (length xs + 1)) 0) x i e
    ∙ ap (λ (m : ℕ). xs ++ x ∷ replicate (9 - m) 0) (sym (length-append xs (x ∷ [])))
    ∙ sym (append_assoc xs (x ∷ []) (replicate (9 - length (xs ++ (x ∷ []))) 0))

-- an array that holds the first i of a run of lamellae holds, after one store, one more
pub filled_more :
    (f : Lamella → ℕ) (at : ℕ → Lamella) (i : ℕ) → i < 9
    → set (nine (map f (firsts at i))) i (f (at i)) ≡ nine (map f (firsts at (i + 1)))
unfolding firsts
filled_more f at i h =
    nine_more (map f (firsts at i)) i (f (at i)) (length-map (firsts at i) f ∙ length_firsts at i) h
    ∙ ap nine (sym (map-append f (firsts at i) (at i ∷ [])))
    ∙ ap (λ (k : ℕ). nine (map f (firsts at k))) (sym (add-one i))

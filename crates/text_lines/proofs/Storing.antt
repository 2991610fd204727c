-- Stores that follow each other, by the record that each promises, and what they add to a text.
use Prim.Native.Nat.{ℕ, ◌+◌, ◌≤◌}
use mathlib.Core.Path.{◌≡◌, refl, sym, ap, ap₂, ◌∙◌}
use mathlib.Core.List.{List, [], ◌∷◌, ◌++◌}
use native.Mathlib.Omega.{arith}
use lib.ListN.{length, take, drop, set, length-append}
use lib.Seq.{sets, sets-eq, take-append_seam}
use Rattle.std.proofs.lemmas.List.{length-take-le}
use Rattle.numbers.proofs.Lists.{then_put}
use Rattle.text_lines.specs.Stores.{Put}

pub put_byte : (l : List ℕ) (i x : ℕ) → Put l i (x ∷ []) 1 (i + 1) (set l i x)
put_byte l i x = record { stored = refl; ends = refl; within = omega arith }

-- what is stored from where the first ends stands after it
pub put_then :
    {l l₁ l₂ xs ys : List ℕ} {i j k most more : ℕ}
    → Put l i xs most j l₁ → Put l₁ j ys more k l₂ → Put l i (xs ++ ys) (most + more) k l₂
put_then {l} {l₁} {l₂} {xs} {ys} {i} {j} {k} p q =
    record {
      stored = then_put l l₁ l₂ i xs j ys p.stored p.ends q.stored;
      ends = simp length-append (omega arith);
      within = omega arith;
    }

-- what is stored behind the front of a space is added to that front
pub put_added :
    {l left xs : List ℕ} {i r most : ℕ} → Put l i xs most r left → i + length xs ≤ length l → take r left ≡ take i l ++ xs
put_added {l} {left} {xs} {i} {r} p fits =
    let front : length (take i l ++ xs) ≡ i + length xs =
    length-append (take i l) xs ∙ ap (λ (n : ℕ). n + length xs) (length-take-le i l (omega arith)) in
    ap₂ (λ (n : ℕ) (zs : List ℕ). take n zs) (p.ends ∙ sym front) (p.stored ∙ sets-eq xs l i fits)
    ∙ take-append_seam (take i l ++ xs) (drop (i + length xs) l)

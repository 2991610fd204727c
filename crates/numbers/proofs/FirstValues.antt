-- Laws of `firsts`.
use Prim.Native.Nat.{ℕ, zero, suc, ◌+◌, ◌<◌}
use mathlib.Core.Path.{◌≡◌, refl, ap, ap₂, ◌∙◌}
use mathlib.Core.List.{List, [], ◌∷◌, ◌++◌}
use native.Mathlib.Omega.{arith}
use native.Mathlib.Numerals.{add-one}
use native.Mathlib.Decide.{dec_lt}
use lib.ListN.{length, get_or, length-append, get_or-append}
use lib.Seq.{ext_get_or, get_or_at}
use Rattle.numbers.specs.Firsts.{firsts}

module _ {A : Type 0} where
  pub length_firsts : (f : ℕ → A) (n : ℕ) → length (firsts f n) ≡ n
  unfolding firsts
  length_firsts f zero = refl
  length_firsts f (suc n) =
      length-append (firsts f n) (f n ∷ []) ∙ ap (λ (k : ℕ). k + 1) (length_firsts f n) ∙ add-one n

  -- functions that agree below n have the same first n values
  pub firsts_agree : (f g : ℕ → A) (n : ℕ) → ((i : ℕ) → i < n → f i ≡ g i) → firsts f n ≡ firsts g n
  unfolding firsts
  firsts_agree f g zero e = refl
  firsts_agree f g (suc n) e =
      ap₂ (λ (xs : List A) (x : A). xs ++ (x ∷ [])) (firsts_agree f g n (λ i h. e i (omega arith))) (e n (omega arith))

  -- value i stands at place i
  pub get_or_firsts : (f : ℕ → A) (n i : ℕ) (d : A) → i < n → get_or (firsts f n) i d ≡ f i
  unfolding firsts
  get_or_firsts f zero i d h = absurd (let z : ⊥ = omega arith in z)
  get_or_firsts f (suc n) i d h = go (dec_lt i n) (λ (k : i < n). get_or_firsts f n i d k)
    where
      go : Dec (i < n) → (i < n → get_or (firsts f n) i d ≡ f i) → get_or (firsts f n ++ (f n ∷ [])) i d ≡ f i
      go (yes k) before = get_or-append (firsts f n) (f n ∷ []) d i (omega (arith, length_firsts f n)) ∙ before k
      go (no k) before =
          let e : i ≡ n = omega arith in
          rw e (get_or_at (firsts f n) (f n) [] d n (length_firsts f n))

  -- a list is the first values of its own places
  pub firsts_get_or : (f : ℕ → A) (l : List A) (d : A) → ((i : ℕ) → i < length l → f i ≡ get_or l i d) → firsts f (length l) ≡ l
  firsts_get_or f l d e =
      ext_get_or d (firsts f (length l)) l (length_firsts f (length l))
      (λ i h.
      let k : i < length l = omega (arith, length_firsts f (length l)) in
      get_or_firsts f (length l) i d k ∙ e i k)

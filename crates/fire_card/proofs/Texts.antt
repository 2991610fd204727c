-- A text that a table of lines allows, and a lent space: what is answered and left where the text fits, and where it does not; and what
-- the answer tells of the space.
use Prim.Native.Nat.{ℕ, zero, suc, ◌≤◌}
use mathlib.Core.Path.{◌≡◌, refl, sym, ap, ◌∙◌}
use mathlib.Core.Bool.{Bool}
use mathlib.Core.List.{List, [], ◌∷◌, ◌++◌}
use native.Mathlib.Nat.{suc-ne-zero}
use native.Mathlib.Omega.{arith}
use borrow.Author.Tests.{le-ltb}
use lib.ListN.{length, take, drop}
use lib.Seq.{take-append_seam}
use lib.Dec.{T}
use Rattle.numbers.specs.Choice.{pick}
use Rattle.refusals.specs.Lines.{Line, refusal, numbered, answer}
use Rattle.refusals.proofs.FirstLine.{refused_by_table, left_by_table, accepted_by_both, answers_refusal}
use Rattle.std.specs.Prelude.{Result, Ok, Err}
use Rattle.fire_card.specs.Answers.{short_line, over, text_refusal, text_answer, text_after}

-- Without a table

pub text_fits :
    (text space : List ℕ) → length text ≤ length space
    → (Ok (length text) ≡ text_answer [] text space) × (over text space ≡ text_after [] text space)
unfolding text_refusal text_answer text_after
text_fits text space h =
    let e = le-ltb (length space) (length text) h in
    (rw e refl, rw e refl)

-- With one

module _ (table : List Line) (text space : List ℕ) where
  -- a text that is refused: nothing is written
  pub text_refused_so : {n : ℕ} → n ≡ text_refusal table text space → (n ≡ 0 → ⊥) → (Err n ≡ text_answer table text space) × (space ≡ text_after table text space)
  unfolding text_answer text_after
  text_refused_so e ne = (answers_refusal Err (Ok (length text)) e ne, answers_refusal (λ (k : ℕ). space) (over text space) e ne)

  -- as where the table refuses it
  pub text_refused : {n : ℕ} → n ≡ refusal table → (n ≡ 0 → ⊥) → (Err n ≡ text_answer table text space) × (space ≡ text_after table text space)
  unfolding text_refusal
  text_refused e ne = text_refused_so (refused_by_table table (short_line text space ∷ []) e ne) ne

  -- a text that the table lets through: as if there were no table
  pub text_written :
      T (numbered table) → refusal table ≡ 0
      → (text_answer [] text space ≡ text_answer table text space) × (text_after [] text space ≡ text_after table text space)
  unfolding text_refusal text_answer text_after
  text_written t e =
      let same = left_by_table table (short_line text space ∷ []) t refl e refl in (
        ap (λ (n : ℕ). answer n Err (Ok (length text))) same,
        ap (λ (n : ℕ). answer n (λ (k : ℕ). space) (over text space)) same,
      )

  -- What an answer tells

  -- `Ok k`: the table lets the text through, and it stands in the first k bytes of what is left
  pub text_stands :
      T (numbered table) → (k : ℕ) → text_answer table text space ≡ Ok k
      → (refusal table ≡ 0) × ((k ≡ length text) × (take k (text_after table text space) ≡ text))
  unfolding text_refusal text_answer text_after
  text_stands t k = go (refusal lines) refl
    where
      lines : List Line
      lines = table ++ (short_line text space ∷ [])

      go :
          (n : ℕ) → refusal lines ≡ n → answer n Err (Ok (length text)) ≡ Ok k
          → (refusal table ≡ 0) × ((k ≡ length text) × (take k (answer n (λ (m : ℕ). space) (over text space)) ≡ text))
      go zero e a =
          let same : k ≡ length text = cc in
          ((accepted_by_both table (short_line text space ∷ []) t e).0, (same, rw same (take-append_seam text (drop (length text) space))))
      go (suc n) e a = absurd (let z : ◌≡◌ {A = ℕ} 0 1 = cc in let w : ⊥ = omega arith in w)

  -- `Err n` where the text would fit: n is the table's refusal
  pub text_not_written :
      T (numbered table) → length text ≤ length space → (n : ℕ) → text_answer table text space ≡ Err n
      → (n ≡ refusal table) × (n ≡ 0 → ⊥)
  unfolding text_refusal text_answer
  text_not_written t h n a = go (refusal table) refl
    where
      room : refusal (short_line text space ∷ []) ≡ 0
      room = ap (λ (b : Bool). pick b 14 0) (le-ltb (length space) (length text) h)

      go : (m : ℕ) → refusal table ≡ m → (n ≡ refusal table) × (n ≡ 0 → ⊥)
      go zero e =
          let none : 0 ≡ refusal (table ++ (short_line text space ∷ [])) = left_by_table table (short_line text space ∷ []) t refl e (sym room) in
          let w : answer 0 Err (Ok (length text)) ≡ Err n = ap (λ (m : ℕ). answer m Err (Ok (length text))) none ∙ a in
          absurd (let z : ◌≡◌ {A = ℕ} 0 1 = cc in let w : ⊥ = omega arith in w)
      go (suc m) e =
          let w = (text_refused (sym e) (suc-ne-zero m)).0 in
          let same : n ≡ suc m = refused_same (sym a ∙ sym w) in
          (same ∙ sym e, λ z. suc-ne-zero m (sym same ∙ z))
        where
          refused_same : {i j : ℕ} → ◌≡◌ {A = Result ℕ ℕ} (Err i) (Err j) → i ≡ j
          refused_same x = cc

-- What the open calls answer where a line refuses the panel or the call, and where none does.
use Prim.Native.Nat.{ℕ, suc, ◌+◌, ◌≤◌, ◌<◌}
use mathlib.Core.Path.{◌≡◌, refl, sym, ap, ◌∙◌}
use mathlib.Core.List.{List, [], ◌∷◌, ◌++◌, append_assoc, append-nil}
use native.Mathlib.Numerals.{add-one}
use borrow.Author.Tests.{lt-ltb, le-ltb}
use lib.Dec.{ltb}
use Rattle.std.specs.Prelude.{Ok, Err}
use lib.ListN.{length, drop, get_or, set}
use lib.Seq.{drop-cons, drop-length, set-append_seam}
use Rattle.numbers.specs.Firsts.{firsts}
use Rattle.numbers.proofs.FirstValues.{length_firsts}
use Rattle.panel.specs.declared.Panel.{Panel}
use Rattle.panel.specs.Faces.{shown}
use Rattle.refusals.specs.Lines.{Line, line}
use Rattle.refusals.specs.Refusals.{panel_lines, panel_refusal}
use Rattle.refusals.proofs.FirstLine.{left_by_table, answered, answers_refusal}
use Rattle.phases.specs.Answers.{depth_table, table_refusal, table_answer, table_after}

-- The table

-- one more depth
pub fill_more :
    (f : ℕ → ℕ) (l : List ℕ) (i : ℕ) (out : List ℕ) → i < length l → out ≡ firsts f i ++ drop i l
    → set out i (f i) ≡ firsts f (i + 1) ++ drop (i + 1) l
unfolding firsts
fill_more f l i out h e =
    rw (add-one i)
    (ap (λ (o : List ℕ). set o i (f i)) (e ∙ ap (λ (r : List ℕ). firsts f i ++ r) (drop-cons l i 0 h))
    ∙ ap (λ (k : ℕ). set (firsts f i ++ (get_or l i 0 ∷ drop (suc i) l)) k (f i)) (sym (length_firsts f i))
    ∙ set-append_seam (firsts f i) (get_or l i 0) (drop (suc i) l) (f i)
    ∙ sym (append_assoc (firsts f i) (f i ∷ []) (drop (suc i) l)))

-- all of them
pub fill_end : (f : ℕ → ℕ) (l : List ℕ) (i n : ℕ) (out : List ℕ) → out ≡ firsts f i ++ drop i l → i ≡ n → length l ≡ n → out ≡ firsts f n
fill_end f l i n out e h k =
    e
    ∙ ap (λ (j : ℕ). firsts f j ++ drop j l) (h ∙ sym k)
    ∙ ap (λ (r : List ℕ). firsts f (length l) ++ r) (drop-length l)
    ∙ append-nil (firsts f (length l))
    ∙ ap (firsts f) k

abbrev pub short : List ℕ → List Line
short space = line 14 (ltb (length space) 361) ∷ []

pub table_short : (p : Panel) (space : List ℕ) → panel_refusal p ≡ 0 → length space < 361 → 14 ≡ table_refusal p space
unfolding table_refusal panel_refusal
table_short p space e h = left_by_table (panel_lines p) (short space) tt refl e (rw (lt-ltb (length space) 361 h) refl)

table_taken : (p : Panel) (space : List ℕ) → panel_refusal p ≡ 0 → 361 ≤ length space → table_refusal p space ≡ 0
unfolding table_refusal panel_refusal
table_taken p space e h = sym (left_by_table (panel_lines p) (short space) tt refl e (rw (le-ltb (length space) 361 h) refl))

pub table_turned :
    (p : Panel) (space : List ℕ) (n : ℕ) → n ≡ table_refusal p space → (n ≡ 0 → ⊥)
    → (Err n ≡ table_answer p space) × (space ≡ table_after p space)
unfolding table_answer table_after
table_turned p space n e ne =
    (answers_refusal Err (Ok tt) e ne, answers_refusal (λ (k : ℕ). space) (depth_table (shown p) ++ drop 361 space) e ne)

pub table_filled :
    (p : Panel) (space after : List ℕ) → panel_refusal p ≡ 0 → 361 ≤ length space → after ≡ depth_table (shown p) ++ drop 361 space
    → (Ok tt ≡ table_answer p space) × (after ≡ table_after p space)
unfolding table_answer table_after
table_filled p space after e h stored =
    let z = table_taken p space e h in (
      answered (table_refusal p space) Err (Ok tt) z,
      stored ∙ answered (table_refusal p space) (λ (k : ℕ). space) (depth_table (shown p) ++ drop 361 space) z,
    )

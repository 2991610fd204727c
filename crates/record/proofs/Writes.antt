-- What the writer answers and leaves: the panel's lines come first, then line 14.
use Prim.Native.Nat.{ℕ, ◌<◌, ◌≤◌}
use mathlib.Core.Path.{◌≡◌, refl, sym, ap, ◌∙◌}
use mathlib.Core.List.{List, [], ◌∷◌, ◌++◌}
use borrow.Author.Tests.{lt-ltb, le-ltb}
use lib.ListN.{length, drop}
use Rattle.std.specs.Prelude.{Ok, Err}
use lib.Seq.{sets}
use Rattle.panel.specs.declared.Panel.{Panel}
use Rattle.refusals.specs.Lines.{Line, line}
use Rattle.refusals.specs.Refusals.{panel_lines, panel_refusal}
use Rattle.refusals.proofs.FirstLine.{left_by_table, accepted_by_both, answered, answers_refusal}
use Rattle.record.specs.Layouts.{record_length, encode}
use Rattle.record.specs.Answers.{write_answer, space_after}
use Rattle.record.specs.Refusals.{short_for, write_refusal}
use Rattle.record.proofs.Lengths.{stored_record}

-- the writer's line
abbrev pub short : Panel → List ℕ → List Line
short p space = line 14 (short_for p space) ∷ []

pub write_short : (p : Panel) (space : List ℕ) → panel_refusal p ≡ 0 → length space < record_length p → 14 ≡ write_refusal p space
unfolding write_refusal panel_refusal
write_short p space e h =
    left_by_table (panel_lines p) (short p space) tt refl e (rw (lt-ltb (length space) (record_length p) h) refl)

pub write_accepted : (p : Panel) (space : List ℕ) → panel_refusal p ≡ 0 → record_length p ≤ length space → write_refusal p space ≡ 0
unfolding write_refusal panel_refusal
write_accepted p space e h =
    sym (left_by_table (panel_lines p) (short p space) tt refl e (rw (le-ltb (length space) (record_length p) h) refl))

-- the writer takes only accepted panels
pub write_taken : (p : Panel) (space : List ℕ) → write_refusal p space ≡ 0 → panel_refusal p ≡ 0
unfolding write_refusal panel_refusal
write_taken p space e = (accepted_by_both (panel_lines p) (short p space) tt e).0

-- What the writer answers and leaves

pub answers_refused :
    (p : Panel) (space : List ℕ) (n : ℕ) → n ≡ write_refusal p space → (n ≡ 0 → ⊥)
    → (Err n ≡ write_answer p space) × (space ≡ space_after p space)
unfolding write_answer space_after
answers_refused p space n e ne =
    (answers_refusal Err (Ok (record_length p)) e ne, answers_refusal (λ (k : ℕ). space) (encode p ++ drop (record_length p) space) e ne)

pub answers_written :
    (p : Panel) (space after : List ℕ) (len : ℕ) → len ≡ record_length p → panel_refusal p ≡ 0 → record_length p ≤ length space
    → after ≡ sets space 0 (encode p)
    → (Ok len ≡ write_answer p space) × (after ≡ space_after p space)
unfolding write_answer space_after
answers_written p space after len el e h stored =
    let z = write_accepted p space e h in (
      ap Ok el ∙ answered (write_refusal p space) Err (Ok (record_length p)) z,
      stored ∙ stored_record p space h
          ∙ answered (write_refusal p space) (λ (k : ℕ). space) (encode p ++ drop (record_length p) space) z,
    )

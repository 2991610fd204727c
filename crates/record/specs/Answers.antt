-- What `read` and `write` answer, by document 01's number, and what `write` leaves in the lent space.
use Rattle.std.specs.Prelude.{ℕ, ◌≡◌, List, ◌++◌, length, drop, Result, Ok}
use Rattle.panel.specs.declared.Panel.{Panel}
use Rattle.refusals.specs.Lines.{answer, unless_refused}
use Rattle.record.specs.Layouts.{panel_of, record_length, encode}
use Rattle.record.specs.Refusals.{record_refusal, write_refusal}

-- what `read` answers to the bytes b: the panel, or the refusal
unfoldable pub decode : List ℕ → Result Panel ℕ
decode b = unless_refused (record_refusal b) (panel_of b)

-- what `write` answers: the number of bytes written, or the refusal
unfoldable pub write_answer : Panel → List ℕ → Result ℕ ℕ
write_answer p space = unless_refused (write_refusal p space) (record_length p)

-- what then stands in the lent space: the record and the old bytes after it, or, on a refusal, what stood there
unfoldable pub space_after : Panel → List ℕ → List ℕ
space_after p space = answer (write_refusal p space) (λ (n : ℕ). space) (encode p ++ drop (record_length p) space)

-- Writing the panel p leaves the bytes b: for a space that is long enough for them the writer answers their number and leaves them at the
-- start of the space, the bytes after them unchanged.
pub record WrittenAs (p : Panel) (b space : List ℕ) : Type 0 where
  pub answer : write_answer p space ≡ Ok (length b)
  pub left : space_after p space ≡ b ++ drop (length b) space

-- What the open calls of this crate answer, by document 01's number, and what they leave in the lent space.
use Rattle.std.specs.Prelude.{ℕ, List, [], ◌∷◌, ◌++◌, length, drop, Result}
use Rattle.refusals.specs.Lines.{Line, line, refusal, answer, unless_refused}
use Rattle.refusals.specs.Causes.{bad_space}
use Rattle.record.specs.Layouts.{panel_of}
use Rattle.record.specs.Refusals.{record_lines}
use Rattle.fire_card.specs.Card.{text_of_card, refusal_text}

-- 14, lent space: "fewer bytes than the .. card written"
abbrev pub short_line : List ℕ → List ℕ → Line
short_line text space = line 14 (bad_space (length text) (length space))

-- what stands in a space after a text is written there: the text, then what stood there
abbrev pub over : List ℕ → List ℕ → List ℕ
over text space = text ++ drop (length text) space

-- A text that a table of lines allows: the table, then 14 for this very text

unfoldable pub text_refusal : List Line → List ℕ → List ℕ → ℕ
text_refusal table text space = refusal (table ++ (short_line text space ∷ []))

unfoldable pub text_answer : List Line → List ℕ → List ℕ → Result ℕ ℕ
text_answer table text space = unless_refused (text_refusal table text space) (length text)

unfoldable pub text_after : List Line → List ℕ → List ℕ → List ℕ
text_after table text space = answer (text_refusal table text space) (λ (n : ℕ). space) (over text space)

-- the card of the bytes b: lines 1 to 13, then 14
abbrev pub card_answer : List ℕ → List ℕ → Result ℕ ℕ
card_answer b space = text_answer (record_lines b) (text_of_card (panel_of b)) space

abbrev pub card_after : List ℕ → List ℕ → List ℕ
card_after b space = text_after (record_lines b) (text_of_card (panel_of b)) space

-- the text of a refusal, whatever its number: 14 alone
abbrev pub refusal_answer : ℕ → List ℕ → Result ℕ ℕ
refusal_answer n space = text_answer [] (refusal_text n) space

abbrev pub refusal_after : ℕ → List ℕ → List ℕ
refusal_after n space = text_after [] (refusal_text n) space

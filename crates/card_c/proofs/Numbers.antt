-- The answers of the card's calls as numbers of 32 bits.
use Prim.Native.Nat.{ℕ, zero, suc, ◌≤◌}
use mathlib.Core.Path.{◌≡◌, ap}
use mathlib.Core.List.{List}
use native.Mathlib.Omega.{arith}
use lib.IntN.{pos}
use lib.ListN.{length}
use Rattle.refusals.specs.Lines.{Line, answer}
use Rattle.std.specs.Prelude.{Ok, Err}
use Rattle.fire_card.specs.Card.{card_most}
use Rattle.fire_card.specs.Answers.{text_refusal, text_answer}
use Rattle.card_c.specs.Exported.{exported, Short}

-- a text no longer than the longest card is answered by a short number
pub short_text : (table : List Line) (text space : List ℕ) → length text ≤ card_most → Short (text_answer table text space)
unfolding text_answer
short_text table text space h = go (text_refusal table text space)
  where
    go : (n : ℕ) → Short (answer n Err (Ok (length text)))
    go zero = h
    go (suc n) = tt

-- a number that is not negative is that of bytes written
pub written_bytes : (table : List Line) (text space : List ℕ) (k : ℕ) → exported (text_answer table text space) ≡ pos k → text_answer table text space ≡ Ok k
unfolding text_answer
written_bytes table text space k = go (text_refusal table text space)
  where
    go : (n : ℕ) → exported (answer n Err (Ok (length text))) ≡ pos k → answer n Err (Ok (length text)) ≡ Ok k
    go zero e = let same : length text ≡ k = cc in ap Ok same
    go (suc n) e = absurd (let z : ◌≡◌ {A = ℕ} 0 1 = cc in let w : ⊥ = omega arith in w)

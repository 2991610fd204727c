-- What is printed: for an accepted record, for a refused one, and for an input longer than any record.
use Prim.Native.Nat.{ℕ, ◌≤◌, ◌<◌}
use mathlib.Core.Path.{◌≡◌, sym, ap, ◌∙◌}
use mathlib.Core.List.{List}
use native.Mathlib.Omega.{arith}
use native.Mathlib.Decide.{dec_le}
use lib.ListN.{length, take, length-take}
use lib.Seq.{take_all}
use Rattle.refusals.proofs.FirstLine.{refused, answered}
use Rattle.record.specs.Layouts.{panel_of}
use Rattle.record.specs.Refusals.{record_refusal}
use Rattle.record.proofs.Records.{too_long}
use Rattle.fire_card.specs.Card.{text_of_card, refusal_text}
use Rattle.fire_card.specs.Printed.{printed_text}

pub printed_card : (b : List ℕ) → record_refusal b ≡ 0 → text_of_card (panel_of b) ≡ printed_text b
unfolding printed_text
printed_card b e = answered (record_refusal b) refusal_text (text_of_card (panel_of b)) e

pub printed_refusal : (b : List ℕ) (n : ℕ) → n ≡ record_refusal b → (n ≡ 0 → ⊥) → refusal_text n ≡ printed_text b
unfolding printed_text
printed_refusal b n e ne = ap refusal_text e ∙ refused (record_refusal b) refusal_text (text_of_card (panel_of b)) (λ z. ne (e ∙ z))

-- bytes that meet line 1, the length
pub printed_for_length : (b : List ℕ) → record_refusal b ≡ 1 → printed_text b ≡ refusal_text 1
printed_for_length b e = sym (printed_refusal b 1 (sym e) (λ z. absurd (let w : ⊥ = omega arith in w)))

-- and so every input longer than 54 bytes
pub printed_long : (b : List ℕ) → 54 < length b → printed_text b ≡ refusal_text 1
printed_long b h = printed_for_length b (too_long b h)

-- so that the first bytes of an input say what the whole of it does, if they are more than 54
pub printed_first : (b : List ℕ) (n : ℕ) → 54 < n → printed_text (take n b) ≡ printed_text b
printed_first b n h = go (dec_le (length b) n)
  where
    go : Dec (length b ≤ n) → printed_text (take n b) ≡ printed_text b
    go (yes k) = ap printed_text (take_all n b k)
    go (no k) = printed_long (take n b) (simp length-take (omega arith)) ∙ sym (printed_long b (omega arith))

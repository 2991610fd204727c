-- More than 54 bytes of an input say what the whole of it does, and of one that did not end with none some are read.
use Rattle.std.proofs.Common.{◌≡◌, ℕ, List, take, Result, Ok, Err, None, Some, IfOk, IfSome, [], ◌∷◌, length, rules, refl, sym, ap, ◌∙◌, arith, lit≤}
use Rattle.std.specs.declared.option.Option.{Option}
use Rattle.fire_card.proofs.Prints.{printed_first}
use Rattle.fire_card.specs.Printed.{printed_text}
use Rattle.card_run.specs.Input.{PrintsAsWhole}
use Rattle.card_run.specs.declared.TheConstants.{ROOM}
use Rattle.card_run.proofs.read_input.Goals as goal

speaks : (bytes : List ℕ) → PrintsAsWhole ROOM bytes
speaks bytes = λ input e. ap printed_text e ∙ printed_first input ROOM (lit≤ tt)

none_taken : (left : List ℕ) → take ROOM left ≡ [] → left ≡ []
none_taken [] e = refl
none_taken (x ∷ xs) e = absurd (let z : 1 ≡ 0 = ap (λ (l : List ℕ). length (take 1 l)) e in let w : ⊥ = omega arith in w)

module _ {A E : Type 0} (bytes : A → List ℕ) where
  speaks_if_ok : (r : Result A E) → IfOk r (λ read. PrintsAsWhole ROOM (bytes read))
  speaks_if_ok (Ok read) = speaks (bytes read)
  speaks_if_ok (Err e) = tt

  -- what is known to be left in the reader is such an input: what then holds of it and of the bytes read
  holds_of_left : (Q : List ℕ → List ℕ → Type 0) → ((read left : List ℕ) → read ≡ take ROOM left → Q read left)
      → (r : Result A E) (known : Option (List ℕ)) (room : ℕ) → room ≡ ROOM
      → IfOk r (λ read. IfSome known (λ left. bytes read ≡ take room left))
      → IfOk r (λ read. IfSome known (Q (bytes read)))
  holds_of_left Q holds (Ok read) None room long h = tt
  holds_of_left Q holds (Ok read) (Some left) room long h = holds (bytes read) left (h ∙ ap (λ n. take n left) long)
  holds_of_left Q holds (Err e) known room long h = tt

pub returns-clause-any : goal.returns-clause-any
returns-clause-any g c = search (speaks_if_ok, speaks)

pub returns-clause-left : goal.returns-clause-left
returns-clause-left g c =
    holds_of_left (λ read. read.now) (λ read left. printed_text read ≡ printed_text left) speaks _ _ _ (search rules) c.read_full.ensures.front

pub returns-clause-none : goal.returns-clause-none
returns-clause-none g c =
    holds_of_left (λ read. read.now) (λ read left. read ≡ [] → left ≡ []) (λ read left e none. none_taken left (sym e ∙ none)) _ _ _ (search rules)
    c.read_full.ensures.front

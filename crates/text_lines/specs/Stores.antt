-- What a function that stores bytes and answers where they end promises.
use Rattle.std.specs.Prelude.{ℕ, ◌+◌, ◌≤◌, ◌≡◌, List, length}
use Rattle.std.proofs.lemmas.List.Edits.{sets}

-- xs is stored in a space from place `at` on and ends before place r, at most `most` places further
pub record Put (space : List ℕ) (at : ℕ) (xs : List ℕ) (most r : ℕ) (left : List ℕ) : Type 0 where
  pub stored : left ≡ sets space at xs
  pub ends : r ≡ at + length xs
  pub within : r ≤ at + most

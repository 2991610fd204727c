-- What a search by halving finds.
use Rattle.std.specs.Prelude.{ℕ, ◌+◌, ◌<◌, Bool, true, false}

-- below `beyond`: a number that keeps the test, or 0 untested, and the next does not, or is `beyond`. `Answers` says of a number what the
-- test answers
pub record IsLastKeeping (Answers : ℕ → Bool → Type 0) (beyond last : ℕ) : Type 0 where
  pub below : last < beyond
  pub kept : 0 < last → Answers last true
  pub next : last + 1 < beyond → Answers (last + 1) false

-- Document 01, "Where a record is turned back": a table of lines, "Checked from top to bottom".
use Rattle.std.specs.Prelude.{ℕ, zero, suc, List, [], ◌∷◌, ◌++◌, Bool, true, false, cond, ◌&&◌, ◌≡◌, eqb, ltb, Result, Ok, Err}
use Rattle.numbers.specs.Choice.{pick}

-- a line of the table: its number, and whether its cause fits
pub record Line : Type 0 where
  pub number : ℕ
  pub fits : Bool

abbrev pub line : ℕ → Bool → Line
line n cause = record { number = n; fits = cause }

-- the refusal: the number of the first line that fits, 0 where none does
abbrev pub refusal : List Line → ℕ
refusal [] = 0
refusal (l ∷ ls) = pick l.fits l.number (refusal ls)

-- whether the line of that number fits; false where the table has none
abbrev pub cause_of : ℕ → List Line → Bool
cause_of n [] = false
cause_of n (l ∷ ls) = cond (eqb l.number n) l.fits (cause_of n ls)

-- a table's lines down to the one of that number, and those below it
abbrev pub down_to : ℕ → List Line → List Line
down_to n [] = []
down_to n (l ∷ ls) = l ∷ cond (eqb l.number n) [] (down_to n ls)

abbrev pub below : ℕ → List Line → List Line
below n [] = []
below n (l ∷ ls) = cond (eqb l.number n) ls (below n ls)

-- no line of the table fits
abbrev pub NoneFits : List Line → Type 0
NoneFits [] = Unit
NoneFits (l ∷ ls) = (l.fits ≡ false) × NoneFits ls

-- a refusal is a line of the table that fits, and none before it does
pub record First (ls : List Line) (n : ℕ) : Type 0 where
  pub before : List Line
  pub this : Line
  pub after : List Line
  pub split : ls ≡ before ++ (this ∷ after)
  pub none : NoneFits before
  pub fits : this.fits ≡ true
  pub number : this.number ≡ n

-- every line has a number other than 0, so that no line is taken for none
abbrev pub numbered : List Line → Bool
numbered [] = true
numbered (l ∷ ls) = ltb 0 l.number && numbered ls

-- what stands for a table, or for what a call answers by it: the value where nothing is refused, else what carries the refusal's number
abbrev pub answer {ℓ} : {A : Type ℓ} → ℕ → (ℕ → A) → A → A
answer zero refused value = value
answer (suc n) refused value = refused (suc n)

-- what a call answers: its value, or the number of the refusal
abbrev pub unless_refused : {A : Type 0} → ℕ → A → Result A ℕ
unless_refused n value = answer n Err (Ok value)

-- whether a table refuses
abbrev pub checked : List Line → Result Unit ℕ
checked ls = unless_refused (refusal ls) tt

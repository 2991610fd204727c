-- Document 01, the printed card: numbers and lines as text, and how they are read back.
use Rattle.std.specs.Prelude.{ℕ, zero, suc, ◌+◌, ◌-◌, ◌*◌, ◌/◌, ◌%◌, Bool, true, false, List, [], ◌∷◌, ◌++◌, ltb, eqb}
use Rattle.std.specs.Str.{byte}
use Rattle.numbers.specs.Choice.{outside}

-- a number below 10 as its digit
abbrev pub digit : ℕ → ℕ
digit n = byte "0" + n

-- the decimal digits of n in ASCII, at most k of them, with no leading zeros
unfoldable pub digits : ℕ → ℕ → List ℕ
digits zero n = []
digits (suc k) n = elim (ltb n 10) [ true ↦ digit n ∷ [] | false ↦ digits k (n / 10) ++ (digit (n % 10) ∷ []) ]

-- a number of 32 bits has at most ten digits
abbrev pub decimal : ℕ → List ℕ
decimal n = digits 10 n

abbrev pub blank : ℕ
blank = byte " "

abbrev pub colon : ℕ
colon = byte ":"

abbrev pub line_feed : ℕ
line_feed = byte "\n"

-- "Fields stand one blank apart"
unfoldable pub text_fields : List ℕ → List ℕ
text_fields [] = []
text_fields (n ∷ ns) = (blank ∷ decimal n) ++ text_fields ns

-- "and each line ends in one line feed."
abbrev pub text_line : List ℕ → List ℕ → List ℕ
text_line head ns = head ++ text_fields ns ++ (line_feed ∷ [])

-- a number below 100 in two digits
abbrev pub two_digits : ℕ → List ℕ
two_digits n = digit (n / 10) ∷ digit (n % 10) ∷ []

-- document 02, 5/14: "a line `RS` with both numbers, two digits for the seconds", as `RS 103:41`
abbrev pub time_line : List ℕ → ℕ → ℕ → List ℕ
time_line head minutes seconds = head ++ (blank ∷ decimal minutes) ++ (colon ∷ two_digits seconds) ++ (line_feed ∷ [])

-- Reading back

-- what follows the first byte `mark`; nothing where there is none
unfoldable pub after : ℕ → List ℕ → List ℕ
after mark [] = []
after mark (c ∷ cs) = elim (eqb c mark) [ true ↦ cs | false ↦ after mark cs ]

-- the number that begins with v and goes on with the digits at the start of a text
unfoldable pub number_from : ℕ → List ℕ → ℕ
number_from v [] = v
number_from v (c ∷ cs) = elim (outside (byte "0") (byte "9") c) [ true ↦ v | false ↦ number_from (10 * v + (c - byte "0")) cs ]

-- the number in the first field of a line
abbrev pub first_number : List ℕ → ℕ
first_number text = number_from 0 (after blank text)

-- and the one in the second
abbrev pub second_number : List ℕ → ℕ
second_number text = number_from 0 (after blank (after blank text))

-- the number after a colon, as the seconds stand in a line
abbrev pub number_after_colon : List ℕ → ℕ
number_after_colon text = number_from 0 (after colon text)

-- no byte of the text is `mark`
abbrev pub free : ℕ → List ℕ → Bool
free mark [] = true
free mark (c ∷ cs) = elim (eqb c mark) [ true ↦ false | false ↦ free mark cs ]

-- the text does not begin with a digit
abbrev pub no_digit : List ℕ → Bool
no_digit [] = true
no_digit (c ∷ cs) = outside (byte "0") (byte "9") c

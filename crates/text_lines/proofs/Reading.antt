-- What is read back of a line: the lines after it, the numbers in its first and second field, and the one after its colon.
use Rattle.std.proofs.lemmas.Bool.{or_from}
use Prim.Native.Nat.{ℕ, zero, suc, ◌+◌, ◌*◌, ◌/◌, ◌%◌, ◌^◌, ◌<◌}
use mathlib.Core.Path.{◌≡◌, refl, sym, ap, ◌∙◌}
use mathlib.Core.Bool.{Bool, true, false}
use mathlib.Core.List.{List, [], ◌∷◌, ◌++◌, append_assoc}
use native.Mathlib.Omega.{arith}
use native.Mathlib.Nat.{div-add-mod}
use borrow.Author.Tests.{le-ltb, ne_eqb, eq-eqb}
use lib.Dec.{eqb}
use Rattle.numbers.specs.Choice.{outside}
use Rattle.numbers.proofs.Booleans.{not_both}
use Rattle.text_lines.specs.Text.{digits, decimal, two_digits, text_fields, text_line, time_line, after, number_from, first_number, second_number, number_after_colon, free, no_digit}
use Rattle.text_lines.proofs.Digits.{by_size, tenth_below}

-- a digit is a byte from 48 to 57
digit_inside : (d : ℕ) → d < 10 → outside 48 57 (48 + d) ≡ false
digit_inside d h = or_from _ _ (le-ltb (48 + d) 48 (omega arith)) (le-ltb 57 (48 + d) (omega arith))

-- What follows a mark

-- a byte that is not the mark, and the rest free of it
free_first : (mark c : ℕ) (cs : List ℕ) → free mark (c ∷ cs) ≡ true → (eqb c mark ≡ false) × (free mark cs ≡ true)
free_first mark c cs = go (eqb c mark)
  where
    go : (b : Bool) → (elim b as (λ _. Bool) [ true ↦ false | false ↦ free mark cs ]) ≡ true → (b ≡ false) × (free mark cs ≡ true)
    go true e = absurd (not_both true refl (sym e))
    go false e = (refl, e)

pub free_append : (mark : ℕ) (xs ys : List ℕ) → free mark xs ≡ true → free mark ys ≡ true → free mark (xs ++ ys) ≡ true
free_append mark [] ys e f = f
free_append mark (x ∷ xs) ys e f =
    let h = free_first mark x xs e in
    rw (h.0, free) (free_append mark xs ys h.1 f)

pub after_free : (mark : ℕ) (xs rest : List ℕ) → free mark xs ≡ true → after mark (xs ++ (mark ∷ rest)) ≡ rest
unfolding after
after_free mark [] rest e = rw (eq-eqb mark mark refl, after)
after_free mark (x ∷ xs) rest e =
    let h = free_first mark x xs e in
    rw (h.0, after) (after_free mark xs rest h.1)

-- a digit is no byte outside 48 to 57
digit_other : (mark d : ℕ) → outside 48 57 mark ≡ true → d < 10 → eqb (48 + d) mark ≡ false
digit_other mark d e h = ne_eqb (48 + d) mark (λ same. not_both (outside 48 57 (48 + d)) (rw same e) (digit_inside d h))

free_digit : (mark : ℕ) → outside 48 57 mark ≡ true → (d : ℕ) → d < 10 → free mark ((48 + d) ∷ []) ≡ true
free_digit mark e d h = rw (digit_other mark d e h, free)

free_digits : (mark : ℕ) → outside 48 57 mark ≡ true → (k n : ℕ) → free mark (digits k n) ≡ true
unfolding digits
free_digits mark e zero n = refl
free_digits mark e (suc k) n =
    by_size (λ (ds : List ℕ). free mark ds ≡ true) k n (free_digit mark e n)
    (λ h. free_append mark (digits k (n / 10)) ((48 + n % 10) ∷ []) (free_digits mark e k (n / 10)) (free_digit mark e (n % 10) (omega arith)))

free_two_digits : (mark : ℕ) → outside 48 57 mark ≡ true → (n : ℕ) → n < 100 → free mark (two_digits n) ≡ true
free_two_digits mark e n h =
    free_append mark ((48 + n / 10) ∷ []) ((48 + n % 10) ∷ []) (free_digit mark e (n / 10) (omega arith)) (free_digit mark e (n % 10) (omega arith))

free_fields : (ns : List ℕ) → free 10 (text_fields ns) ≡ true
unfolding text_fields
free_fields [] = refl
free_fields (n ∷ ns) = free_append 10 (decimal n) (text_fields ns) (free_digits 10 refl 10 n) (free_fields ns)

-- a text with no line feed but the one at its end
after_feed : (xs rest : List ℕ) → free 10 xs ≡ true → after 10 (xs ++ (10 ∷ []) ++ rest) ≡ rest
after_feed xs rest e = ap (after 10) (append_assoc xs (10 ∷ []) rest) ∙ after_free 10 xs rest e

-- a line whose head has no line feed ends at its own
pub after_line : (head ns rest : List ℕ) → free 10 head ≡ true → after 10 (text_line head ns ++ rest) ≡ rest
after_line head ns rest h = after_feed (head ++ text_fields ns) rest (free_append 10 head (text_fields ns) h (free_fields ns))

pub after_time :
    (head : List ℕ) (minutes seconds : ℕ) (rest : List ℕ)
    → seconds < 100 → free 10 head ≡ true → after 10 (time_line head minutes seconds ++ rest) ≡ rest
after_time head minutes seconds rest l h =
    let field : List ℕ = 32 ∷ decimal minutes in
    after_feed (head ++ field ++ (58 ∷ two_digits seconds)) rest
    (free_append 10 (head ++ field) (58 ∷ two_digits seconds)
    (free_append 10 head field h (free_digits 10 refl 10 minutes)) (free_two_digits 10 refl seconds l))

-- Numbers

-- a digit goes on with the number
number_from_digit : (v d : ℕ) (rest : List ℕ) → d < 10 → number_from v ((48 + d) ∷ rest) ≡ number_from (10 * v + d) rest
unfolding number_from
number_from_digit v d rest h = rw (digit_inside d h, number_from) (ap (λ (x : ℕ). number_from (10 * v + x) rest) (omega arith))

number_from_first : (d : ℕ) (rest : List ℕ) → d < 10 → number_from 0 ((48 + d) ∷ rest) ≡ number_from d rest
number_from_first d rest h = number_from_digit 0 d rest h ∙ ap (λ (v : ℕ). number_from v rest) (omega arith)

number_from_last : (n : ℕ) (rest : List ℕ) → number_from (n / 10) ((48 + n % 10) ∷ rest) ≡ number_from n rest
number_from_last n rest =
    number_from_digit (n / 10) (n % 10) rest (omega arith) ∙ ap (λ (v : ℕ). number_from v rest) (div-add-mod n 10)

-- the digits of a number are read as the number
pub number_from_digits : (k n : ℕ) (rest : List ℕ) → n < 10 ^ k → number_from 0 (digits k n ++ rest) ≡ number_from n rest
unfolding digits
number_from_digits zero n rest h = ap (λ (v : ℕ). number_from v rest) (omega arith)
number_from_digits (suc k) n rest h =
    by_size (λ (ds : List ℕ). number_from 0 (ds ++ rest) ≡ number_from n rest) k n (number_from_first n rest)
    (λ l. ap (number_from 0) (append_assoc (digits k (n / 10)) ((48 + n % 10) ∷ []) rest)
    ∙ number_from_digits k (n / 10) ((48 + n % 10) ∷ rest) (tenth_below k n h)
    ∙ number_from_last n rest)

number_from_ends : (v : ℕ) (rest : List ℕ) → no_digit rest ≡ true → number_from v rest ≡ v
unfolding number_from
number_from_ends v [] h = refl
number_from_ends v (c ∷ cs) h = rw (h, number_from)

pub decimal_value : (n : ℕ) → n < 10000000000 → (rest : List ℕ) → no_digit rest ≡ true → number_from 0 (decimal n ++ rest) ≡ n
decimal_value n h rest e = number_from_digits 10 n rest h ∙ number_from_ends n rest e

two_digits_value : (n : ℕ) → n < 100 → (rest : List ℕ) → no_digit rest ≡ true → number_from 0 (two_digits n ++ rest) ≡ n
two_digits_value n h rest e =
    number_from_first (n / 10) ((48 + n % 10) ∷ rest) (omega arith) ∙ number_from_last n rest ∙ number_from_ends n rest e

-- the number in the first field, where no digit follows it
first_field :
    (head : List ℕ) (n : ℕ) (rest : List ℕ)
    → free 32 head ≡ true → n < 10000000000 → no_digit rest ≡ true → first_number (head ++ ((32 ∷ decimal n) ++ rest)) ≡ n
first_field head n rest e h f = ap (number_from 0) (after_free 32 head (decimal n ++ rest) e) ∙ decimal_value n h rest f

-- after a number of a line comes a blank or the line feed
after_number : (ns rest : List ℕ) → no_digit (text_fields ns ++ ((10 ∷ []) ++ rest)) ≡ true
unfolding text_fields
after_number [] rest = refl
after_number (m ∷ ns) rest = refl

-- the number in a line's first field is the first number
pub first_number_lem :
    (head : List ℕ) (n : ℕ) (ns rest : List ℕ) → free 32 head ≡ true → n < 10000000000 → first_number (text_line head (n ∷ ns) ++ rest) ≡ n
unfolding text_fields
first_number_lem head n ns rest e h =
    ap first_number (simp append_assoc) ∙ first_field head n (text_fields ns ++ ((10 ∷ []) ++ rest)) e h (after_number ns rest)

-- and the one in its second field the second
second_field :
    (head : List ℕ) (m n : ℕ) (rest : List ℕ)
    → free 32 head ≡ true → n < 10000000000 → no_digit rest ≡ true
    → second_number (head ++ ((32 ∷ decimal m) ++ ((32 ∷ decimal n) ++ rest))) ≡ n
second_field head m n rest e h f =
    ap (λ (text : List ℕ). number_from 0 (after 32 text)) (after_free 32 head (decimal m ++ ((32 ∷ decimal n) ++ rest)) e)
    ∙ ap (number_from 0) (after_free 32 (decimal m) (decimal n ++ rest) (free_digits 32 refl 10 m))
    ∙ decimal_value n h rest f

pub second_number_lem :
    (head : List ℕ) (m n : ℕ) (ns rest : List ℕ)
    → free 32 head ≡ true → n < 10000000000 → second_number (text_line head (m ∷ n ∷ ns) ++ rest) ≡ n
unfolding text_fields
second_number_lem head m n ns rest e h =
    ap second_number (in_a_row head (32 ∷ decimal m) (32 ∷ decimal n) (text_fields ns) (10 ∷ []) rest)
    ∙ second_field head m n (text_fields ns ++ ((10 ∷ []) ++ rest)) e h (after_number ns rest)
  where
    in_a_row : (a b c d e f : List ℕ) → (a ++ (b ++ (c ++ d)) ++ e) ++ f ≡ a ++ (b ++ (c ++ (d ++ (e ++ f))))
    in_a_row a b c d e f = simp append_assoc refl

-- of a line with a time it is the minutes, and the number after the colon the seconds
pub time_minutes :
    (head : List ℕ) (minutes seconds : ℕ) (rest : List ℕ)
    → free 32 head ≡ true → minutes < 10000000000 → first_number (time_line head minutes seconds ++ rest) ≡ minutes
time_minutes head minutes seconds rest e h =
    ap first_number (simp append_assoc) ∙ first_field head minutes ((58 ∷ two_digits seconds) ++ (10 ∷ rest)) e h refl

pub time_seconds :
    (head : List ℕ) (minutes seconds : ℕ) (rest : List ℕ)
    → seconds < 100 → free 58 head ≡ true → number_after_colon (time_line head minutes seconds ++ rest) ≡ seconds
time_seconds head minutes seconds rest l e =
    let field : List ℕ = 32 ∷ decimal minutes in
    ap number_after_colon (simp append_assoc)
    ∙ ap (number_from 0) (after_free 58 (head ++ field) (two_digits seconds ++ (10 ∷ rest)) (free_append 58 head field e (free_digits 58 refl 10 minutes)))
    ∙ two_digits_value seconds l (10 ∷ rest) refl

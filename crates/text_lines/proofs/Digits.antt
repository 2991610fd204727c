-- The decimal digits of a number: how many there are, which bytes they are, and that none is a leading zero.
use Prim.Native.Nat.{ℕ, zero, suc, ◌+◌, ◌/◌, ◌%◌, ◌^◌, ◌≤◌, ◌<◌}
use mathlib.Core.Path.{◌≡◌, refl, sym, ap, ◌∙◌}
use mathlib.Core.Bool.{Bool, true, false}
use mathlib.Core.List.{List, [], ◌∷◌, ◌++◌, append_assoc}
use native.Mathlib.Nat.{pow-suc, div-lt_iff_lt-mul}
use native.Mathlib.Omega.{arith}
use borrow.Author.Tests.{ltb-true, ltb-false, lt-ltb, le-ltb}
use lib.Dec.{ltb}
use lib.ListN.{length, drop, set, get_or, length-append}
use native.Mathlib.Numerals.{add-one}
use Rattle.std.proofs.lemmas.List.{drop-set}
use Rattle.text_lines.specs.Text.{digits, decimal}

-- A number below ten is one digit, any other the digits of its tenth part and one more

pub by_size :
    (P : List ℕ → Type 0) (k n : ℕ) → (n < 10 → P ((48 + n) ∷ []))
    → (10 ≤ n → P (digits k (n / 10) ++ ((48 + n % 10) ∷ []))) → P (digits (suc k) n)
unfolding digits
by_size P k n one more = go (ltb n 10) refl
  where
    go : (b : Bool) → ltb n 10 ≡ b → P (elim b as (λ _. List ℕ) [ true ↦ (48 + n) ∷ [] | false ↦ digits k (n / 10) ++ ((48 + n % 10) ∷ []) ])
    go true e = one (ltb-true n 10 e)
    go false e = more (ltb-false n 10 e)

pub digits_one : (k n : ℕ) → n < 10 → digits (suc k) n ≡ (48 + n) ∷ []
unfolding digits
digits_one k n h = rw (lt-ltb n 10 h, digits)

pub digits_more : (k n : ℕ) → 10 ≤ n → digits (suc k) n ≡ digits k (n / 10) ++ ((48 + n % 10) ∷ [])
unfolding digits
digits_more k n h = rw (le-ltb n 10 h, digits)

pub tenth_below : (k n : ℕ) → n < 10 ^ suc k → n / 10 < 10 ^ k
tenth_below k n h = (div-lt_iff_lt-mul {k = 10} {x = n} {y = 10 ^ k} (omega arith)).1 (rw pow-suc at h)

-- How many

pub length_digits : (k n : ℕ) → length (digits k n) ≤ k
unfolding digits
length_digits zero n = omega arith
length_digits (suc k) n =
    by_size (λ (ds : List ℕ). length ds ≤ suc k) k n (λ h. omega arith)
    (λ h. simp length-append (omega (arith, length_digits k (n / 10))))

pub decimal_length : (n : ℕ) → length (decimal n) ≤ 10
decimal_length n = length_digits 10 n

pub decimal_some : (n : ℕ) → 1 ≤ length (decimal n)
decimal_some n = by_size (λ (ds : List ℕ). 1 ≤ length ds) 9 n (λ h. omega arith) (λ h. simp length-append (omega arith))

-- k digits are enough for a number below 10 ^ k, so that a place more changes nothing
pub digits_enough : (k n : ℕ) → n < 10 ^ suc k → digits (suc (suc k)) n ≡ digits (suc k) n
digits_enough zero n h = digits_one 1 n (omega arith) ∙ sym (digits_one 0 n (omega arith))
digits_enough (suc k) n h =
    by_size (λ (ds : List ℕ). ds ≡ digits (suc (suc k)) n) (suc (suc k)) n (λ l. sym (digits_one (suc k) n l))
    (λ l. ap (λ (ds : List ℕ). ds ++ ((48 + n % 10) ∷ [])) (digits_enough k (n / 10) (tenth_below (suc k) n h)) ∙ sym (digits_more (suc k) n l))

-- so a number below 10 ^ 9 has at most nine
pub decimal_shorter : (n : ℕ) → n < 1000000000 → length (decimal n) ≤ 9
decimal_shorter n h = rw (digits_enough 8 n h) (length_digits 9 n)

-- and a number of 32 bits is its tenth part and one digit more
pub decimal_more : (n : ℕ) → 10 ≤ n → n < 10000000000 → decimal n ≡ decimal (n / 10) ++ ((48 + n % 10) ∷ [])
decimal_more n h k =
    digits_more 9 n h ∙ ap (λ (ds : List ℕ). ds ++ ((48 + n % 10) ∷ [])) (sym (digits_enough 8 (n / 10) (omega arith)))

-- Stored from the last on, in bytes of which place k is the next

-- the last digit of what is left goes to place k
pub digit_stored :
    (k n : ℕ) (bytes text : List ℕ) → 10 ≤ n → k < length bytes → digits (k + 1) n ++ drop (k + 1) bytes ≡ text
    → digits k (n / 10) ++ drop k (set bytes k (48 + n % 10)) ≡ text
digit_stored k n bytes text h l e =
    rw (drop-set bytes k (48 + n % 10) l)
    (sym (append_assoc (digits k (n / 10)) ((48 + n % 10) ∷ []) (drop (k + 1) bytes))
    ∙ ap (λ (ds : List ℕ). ds ++ drop (k + 1) bytes) (sym (digits_more k n h) ∙ ap (λ (m : ℕ). digits m n) (sym (add-one k)))
    ∙ e)

-- and so does a number below ten, which is its first
pub first_stored :
    (k n : ℕ) (bytes text : List ℕ) → n < 10 → k < length bytes → digits (k + 1) n ++ drop (k + 1) bytes ≡ text
    → drop k (set bytes k (48 + n)) ≡ text
first_stored k n bytes text h l e =
    drop-set bytes k (48 + n) l
    ∙ ap (λ (ds : List ℕ). ds ++ drop (k + 1) bytes) (sym (digits_one k n h) ∙ ap (λ (m : ℕ). digits m n) (sym (add-one k)))
    ∙ e

-- Which bytes

-- the first byte of a list, d where there is none, is d only if that of its front is
first_of_front : (xs ys : List ℕ) (d : ℕ) → get_or (xs ++ ys) 0 d ≡ d → get_or xs 0 d ≡ d
first_of_front [] ys d e = refl
first_of_front (x ∷ xs) ys d e = e

digits_no_leading_zero : (k n : ℕ) → 0 < n → n < 10 ^ k → get_or (digits k n) 0 48 ≡ 48 → ⊥
digits_no_leading_zero zero n h l = absurd (omega arith)
digits_no_leading_zero (suc k) n h l =
    by_size (λ (ds : List ℕ). get_or ds 0 48 ≡ 48 → ⊥) k n (λ _ e. omega arith)
    (λ m e. digits_no_leading_zero k (n / 10) (omega arith) (tenth_below k n l) (first_of_front (digits k (n / 10)) ((48 + n % 10) ∷ []) 48 e))

-- no leading zero: the first byte of a number above 0 is not the digit 0
pub no_leading_zero : (n : ℕ) → 0 < n → n < 10000000000 → get_or (decimal n) 0 48 ≡ 48 → ⊥
no_leading_zero n = digits_no_leading_zero 10 n

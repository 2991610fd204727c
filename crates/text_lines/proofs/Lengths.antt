-- How many bytes a line takes, and the fields of one number more.
use Prim.Native.Nat.{ℕ, ◌+◌, ◌*◌, ◌≤◌, ◌<◌}
use mathlib.Core.Path.{◌≡◌, sym, ap, ◌∙◌}
use mathlib.Core.List.{List, [], ◌∷◌, ◌++◌, append_assoc, append-nil}
use native.Mathlib.Omega.{arith}
use lib.ListN.{length, take, get_or, length-append}
use lib.Seq.{take-suc}
use native.Mathlib.Numerals.{add-one}
use Rattle.text_lines.specs.Text.{decimal, text_fields, text_line, time_line}
use Rattle.text_lines.proofs.Digits.{decimal_length, decimal_shorter}

pub length_fields : (ns : List ℕ) → length (text_fields ns) ≤ 11 * length ns
unfolding text_fields
length_fields [] = omega arith
length_fields (n ∷ ns) = simp length-append (omega (arith, decimal_length n, length_fields ns))

pub length_line : (head ns : List ℕ) → length (text_line head ns) ≤ length head + 11 * length ns + 1
length_line head ns = simp length-append (omega (arith, length_fields ns))

-- one number of at most nine digits
pub line_shorter : (head : List ℕ) (n : ℕ) → n < 1000000000 → length (text_line head (n ∷ [])) ≤ length head + 11
unfolding text_fields
line_shorter head n h = simp length-append (omega (arith, decimal_shorter n h))

pub length_time : (head : List ℕ) (minutes seconds : ℕ) → length (time_line head minutes seconds) ≤ length head + 15
length_time head minutes seconds = simp length-append (omega (arith, decimal_length minutes))

-- one number more, at the end
pub fields_more : (ns : List ℕ) (n : ℕ) → text_fields (ns ++ (n ∷ [])) ≡ text_fields ns ++ (32 ∷ decimal n)
unfolding text_fields
fields_more [] n = append-nil (32 ∷ decimal n)
fields_more (m ∷ ns) n =
    ap (λ (xs : List ℕ). (32 ∷ decimal m) ++ xs) (fields_more ns n) ∙ sym (append_assoc (32 ∷ decimal m) (text_fields ns) (32 ∷ decimal n))

pub fields_take : (ns : List ℕ) (i : ℕ) → i < length ns → text_fields (take (i + 1) ns) ≡ text_fields (take i ns) ++ (32 ∷ decimal (get_or ns i 0))
fields_take ns i h = ap text_fields (rw add-one (take-suc ns i 0 h)) ∙ fields_more (take i ns) (get_or ns i 0)

-- Big-endian numbers, any width: reading what was written, and writing what was read.
use Prim.Native.Nat.{ℕ, zero, suc, ◌+◌, ◌*◌, ◌/◌, ◌%◌, ◌^◌, ◌<◌}
use mathlib.Core.Path.{◌≡◌, refl, sym, ap, ap₂, subst, ◌∙◌}
use mathlib.Core.List.{List, [], ◌∷◌, ◌++◌, append_assoc}
use native.Mathlib.Nat.{div-add-mod', pow-succ', zero-add, add_assoc}
use native.Mathlib.Omega.{arith}
use lib.Arith.{digits_div, digits_mod, digits_lt}
use lib.ListN.{length, get_or, length-append, drop}
use Rattle.numbers.specs.Bytes.{places, number, bytes, fields, join, span, AreBytes}
use Rattle.numbers.proofs.Places.{get_or_cons, places_append}
use lib.Seq.{get_or-drop}

-- a byte in front moves every place up by one
number_cons : (x : ℕ) (l : List ℕ) (at w : ℕ) → number (x ∷ l) (at + 1) w ≡ number l at w
number_cons x l at zero = refl
number_cons x l at (suc zero) = get_or_cons x l at
number_cons x l at (suc (suc w)) =
    ap₂ (λ (a b : ℕ). a * 256 ^ suc w + b) (get_or_cons x l at) (number_cons x l (at + 1) (suc w))

-- and a list in front by its length
number_after : (xs l : List ℕ) (at w : ℕ) → number (xs ++ l) (length xs + at) w ≡ number l at w
number_after [] l at w = ap (λ (k : ℕ). number l k w) (zero-add at)
number_after (x ∷ xs) l at w =
    let e : suc (length xs) + at ≡ length xs + at + 1 = omega arith in
    ap (λ (k : ℕ). number (x ∷ xs ++ l) k w) e ∙ number_cons x (xs ++ l) (length xs + at) w ∙ number_after xs l at w

pub fields_after : (ws xs l : List ℕ) (at : ℕ) → fields ws (xs ++ l) (length xs + at) ≡ fields ws l at
fields_after [] xs l at = refl
fields_after (w ∷ ws) xs l at =
    ap₂ (λ (v : ℕ) (vs : List ℕ). v ∷ vs) (number_after xs l at w)
    (ap (fields ws (xs ++ l)) (add_assoc (length xs) at w) ∙ fields_after ws xs l (at + w))

-- Reading what was written

number_bytes : (w v : ℕ) (l : List ℕ) → number (bytes (suc w) v ++ l) 0 (suc w) ≡ v
number_bytes zero v l = refl
number_bytes (suc w) v l =
    ap (λ (r : ℕ). v / 256 ^ suc w * 256 ^ suc w + r)
    (number_cons (v / 256 ^ suc w) (bytes (suc w) (v % 256 ^ suc w) ++ l) 0 (suc w) ∙ number_bytes w (v % 256 ^ suc w) l)
    ∙ div-add-mod' v (256 ^ suc w)

length_bytes : (w v : ℕ) → length (bytes w v) ≡ w
length_bytes zero v = refl
length_bytes (suc zero) v = refl
length_bytes (suc (suc w)) v = ap suc (length_bytes (suc w) (v % 256 ^ suc w))

-- there is a number for each width, and no width is 0
abbrev pub Filled : List ℕ → List ℕ → Type 0
Filled [] [] = Unit
Filled [] (v ∷ vs) = ⊥
Filled (zero ∷ ws) vs = ⊥
Filled (suc w ∷ ws) [] = ⊥
Filled (suc w ∷ ws) (v ∷ vs) = Filled ws vs

pub length_join : (ws vs : List ℕ) → Filled ws vs → length (join ws vs) ≡ span ws
length_join [] [] h = refl
length_join (zero ∷ ws) vs h = absurd h
length_join (suc w ∷ ws) (v ∷ vs) h =
    length-append (bytes (suc w) v) (join ws vs) ∙ ap₂ (λ (m n : ℕ). m + n) (length_bytes (suc w) v) (length_join ws vs h)
length_join [] (v ∷ vs) h = elim h [ ]
length_join (suc w ∷ ws) [] h = elim h [ ]

-- the numbers written are the numbers read
pub fields_join : (ws vs l : List ℕ) → Filled ws vs → fields ws (join ws vs ++ l) 0 ≡ vs
fields_join [] [] l h = refl
fields_join (zero ∷ ws) vs l h = absurd h
fields_join (suc w ∷ ws) (v ∷ vs) l h =
    let e : 0 + suc w ≡ length (bytes (suc w) v) + 0 = omega (arith, length_bytes (suc w) v) in
    ap (λ (b : List ℕ). fields (suc w ∷ ws) b 0) (append_assoc (bytes (suc w) v) (join ws vs) l)
    ∙ ap₂ (λ (x : ℕ) (xs : List ℕ). x ∷ xs) (number_bytes w v (join ws vs ++ l))
    (ap (fields ws (bytes (suc w) v ++ (join ws vs ++ l))) e ∙ fields_after ws (bytes (suc w) v) (join ws vs ++ l) 0 ∙ fields_join ws vs l h)
fields_join [] (v ∷ vs) l h = elim h [ ]
fields_join (suc w ∷ ws) [] l h = elim h [ ]

-- Writing what was read

-- a number in w bytes is below 256 ^ w
pub number_below : (b : List ℕ) → AreBytes b → (at w : ℕ) → number b at (suc w) < 256 ^ suc w
number_below b h at zero = h at
number_below b h at (suc w) =
    subst (λ (n : ℕ). number b at (suc (suc w)) < n) (sym (pow-succ' 256 (suc w)))
    (digits_lt (h at) (number_below b h (at + 1) w))

-- the bytes of the number read are the bytes that stood there
pub bytes_number : (b : List ℕ) → AreBytes b → (at w : ℕ) → bytes w (number b at w) ≡ places b at w
bytes_number b h at zero = refl
bytes_number b h at (suc zero) = refl
bytes_number b h at (suc (suc w)) =
    let r = number b (at + 1) (suc w) in
    let below : r < 256 ^ suc w = number_below b h (at + 1) w in
    ap₂ (λ (x : ℕ) (xs : List ℕ). x ∷ xs) (digits_div (get_or b at 0) below)
    (ap (bytes (suc w)) (digits_mod (get_or b at 0) below) ∙ bytes_number b h (at + 1) (suc w))

-- the same for several numbers in a row
pub join_fields : (ws b : List ℕ) → AreBytes b → (at : ℕ) → join ws (fields ws b at) ≡ places b at (span ws)
join_fields [] b h at = refl
join_fields (w ∷ ws) b h at =
    ap₂ (λ (xs ys : List ℕ). xs ++ ys) (bytes_number b h at w) (join_fields ws b h (at + w)) ∙ sym (places_append b at w (span ws))

-- a part of bytes is bytes
pub drop_bytes : (b : List ℕ) → AreBytes b → (k : ℕ) → AreBytes (drop k b)
drop_bytes b h k i = rw get_or-drop (h (k + i))

-- std's big-endian words, at every width: what they read is the number of a record, what they write its bytes.
use Prim.Native.Nat.{ℕ, zero, suc, ◌+◌, ◌-◌, ◌*◌, ◌/◌, ◌%◌, ◌^◌, ◌<◌}
use mathlib.Core.Path.{◌≡◌, refl, sym, ap, ap₂, ◌∙◌}
use mathlib.Core.List.{List, ◌∷◌}
use native.Mathlib.Nat.{add-zero, pow-succ', mod-lt, mod-eq_of_lt}
use native.Mathlib.Omega.{arith}
use lib.Arith.{digits_div, digits_mod, mod-mul}
use lib.ListN.{get_or}
use mir.Val.{bits}
use Rattle.std.specs.Int.{Width, w8, w16, w32, w64, w128, byte_len, byte_worth, bytes_high_first, sum_through, to_be_bytes, from_be_bytes}
use Rattle.numbers.specs.Bytes.{places, number, bytes}

-- Reading

sum_agree : (f g : ℕ → ℕ) (n : ℕ) → ((i : ℕ) → i < suc n → f i ≡ g i) → sum_through f n ≡ sum_through g n
sum_agree f g zero e = e 0 (omega arith)
sum_agree f g (suc n) e = ap₂ (λ (a b : ℕ). a + b) (sum_agree f g n (λ i h. e i (omega arith))) (e (suc n) (omega arith))

-- a sum, its first term first
sum_first : (f : ℕ → ℕ) (n : ℕ) → sum_through f (suc n) ≡ f 0 + sum_through (λ (i : ℕ). f (suc i)) n
sum_first f zero = refl
sum_first f (suc n) = omega (arith, sum_first f n)

get_or_places : (b : List ℕ) (at w i : ℕ) → i < w → get_or (places b at w) i 0 ≡ get_or b (at + i) 0
get_or_places b at zero i h = absurd (let z : ⊥ = omega arith in z)
get_or_places b at (suc w) zero h = ap (λ (k : ℕ). get_or b k 0) (sym (add-zero at))
get_or_places b at (suc w) (suc i) h =
    let e : at + 1 + i ≡ at + suc i = omega arith in
    get_or_places b (at + 1) w i (omega arith) ∙ ap (λ (k : ℕ). get_or b k 0) e

-- what the bytes are worth, the most significant first
worth : (b : List ℕ) (at n : ℕ) → sum_through (λ (i : ℕ). byte_worth (n - i) (get_or b (at + i) 0)) n ≡ number b at (suc n)
worth b at zero = ap (λ (k : ℕ). get_or b k 0) (add-zero at)
worth b at (suc n) =
    sum_first (λ (i : ℕ). byte_worth (suc n - i) (get_or b (at + i) 0)) n
    ∙ ap₂ (λ (a r : ℕ). a + r)
    (ap₂ (λ (k m : ℕ). byte_worth k (get_or b m 0)) (let e : suc n - 0 ≡ suc n = omega arith in e) (add-zero at))
    (sum_agree (λ (i : ℕ). byte_worth (suc n - suc i) (get_or b (at + suc i) 0)) (λ (i : ℕ). byte_worth (n - i) (get_or b (at + 1 + i) 0)) n
    (λ i h. ap₂ (λ (k m : ℕ). byte_worth k (get_or b m 0)) (let e : suc n - suc i ≡ n - i = omega arith in e)
    (let e : at + suc i ≡ at + 1 + i = omega arith in e))
    ∙ worth b (at + 1) n)

word : (n : ℕ) (b : List ℕ) (at : ℕ) → sum_through (λ (i : ℕ). byte_worth (n - i) (get_or (places b at (suc n)) i 0)) n ≡ number b at (suc n)
word n b at =
    sum_agree (λ (i : ℕ). byte_worth (n - i) (get_or (places b at (suc n)) i 0)) (λ (i : ℕ). byte_worth (n - i) (get_or b (at + i) 0)) n
    (λ i h. ap (byte_worth (n - i)) (get_or_places b at (suc n) i h))
    ∙ worth b at n

-- `from_be_bytes` of the bytes from a place on is the number there
pub word_read : (w : Width) (b : List ℕ) (at : ℕ) → from_be_bytes w (places b at (byte_len w)) ≡ number b at (byte_len w)
word_read w8 b at = word 0 b at
word_read w16 b at = word 1 b at
word_read w32 b at = word 3 b at
word_read w64 b at = word 7 b at
word_read w128 b at = word 15 b at

-- the same of a word that a call read from those bytes
pub word_at :
    (w : Width) (b : List ℕ) (at : ℕ) {bs : List ℕ} {v : ℕ} → bs ≡ places b at (byte_len w) → v ≡ from_be_bytes w bs → v ≡ number b at (byte_len w)
word_at w b at e f = f ∙ ap (from_be_bytes w) e ∙ word_read w b at

-- Writing

power_positive : (n : ℕ) → 0 < 256 ^ n
power_positive zero = omega arith
power_positive (suc n) = let h = power_positive n in rw pow-succ' (omega arith)

-- the lowest bytes, the most significant first
low_bytes : (n v : ℕ) → bytes_high_first (suc n) v ≡ bytes (suc n) (v % 256 ^ suc n)
low_bytes zero v = refl
low_bytes (suc n) v =
    let c : ℕ = 256 ^ suc n in
    let h = mod-lt v (power_positive (suc n)) in
    let e : v % 256 ^ suc (suc n) ≡ v / c % 256 * c + v % c =
    ap (λ (m : ℕ). v % m) (pow-succ' 256 (suc n)) ∙ mod-mul v {m = 256} (omega arith) (power_positive (suc n)) in
    ap₂ (λ (x : ℕ) (xs : List ℕ). x ∷ xs) (sym (ap (λ (m : ℕ). m / c) e ∙ digits_div (v / c % 256) h))
    (low_bytes n v ∙ ap (bytes (suc n)) (sym (ap (λ (m : ℕ). m % c) e ∙ digits_mod (v / c % 256) h)))

-- `to_be_bytes` gives the bytes of the number
pub word_written : (w : Width) (v : ℕ) → v < 2 ^ bits w → to_be_bytes w v ≡ bytes (byte_len w) v
word_written w8 v h = low_bytes 0 v ∙ ap (bytes 1) (mod-eq_of_lt h)
word_written w16 v h = low_bytes 1 v ∙ ap (bytes 2) (mod-eq_of_lt h)
word_written w32 v h = low_bytes 3 v ∙ ap (bytes 4) (mod-eq_of_lt h)
word_written w64 v h = low_bytes 7 v ∙ ap (bytes 8) (mod-eq_of_lt h)
word_written w128 v h = low_bytes 15 v ∙ ap (bytes 16) (mod-eq_of_lt h)

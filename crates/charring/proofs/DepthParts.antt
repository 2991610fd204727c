-- The parts of the char depth: what has charred by t_f, and what the way gives after it.
use Prim.Native.Nat.{ℕ, ◌+◌, ◌-◌, ◌*◌, ◌≤◌, ◌<◌, min}
use mathlib.Core.Path.{◌≡◌, ap}
use mathlib.Core.List.{List, [], ◌∷◌}
use native.Mathlib.Omega.{arith}
use native.Mathlib.Decide.{dec_le}
use native.Mathlib.Nat.{mul-sub, mul-le-mul_left}
use Rattle.panel.specs.declared.Panel.{Panel}
use Rattle.charring.specs.Rates.{start_of, failure_of, plain_rate, slow_rate, back_face, depth_at_failure}
use Rattle.charring.specs.Way.{Stretch, way, charred, fast_part, settled_part}
use Rattle.charring.specs.Depths.{under_at, after_at, char_at}
use Rattle.charring.proofs.WayLaws.{Chain, last, next, way_chain, parts, parts_cover, charred_past}

-- short of the back face, the depth is what its parts say
pub char_parts : (p : Panel) (n q : ℕ) → char_at p n q < 2 * q * back_face p → char_at p n q ≡ under_at p n q + after_at p n q
unfolding char_at
char_parts p n q h = numbers (under_at p n q + after_at p n q) (2 * q * back_face p) h
  where
    numbers : (a b : ℕ) → min a b < b → min a b ≡ a
    numbers a b h = omega arith

-- from t_f on
pub under_full : (p : Panel) (n q : ℕ) → q * failure_of p ≤ 1000 * n → under_at p n q ≡ 2 * q * depth_at_failure p
under_full p n q h =
    let e : min (1000 * n - q * start_of p) (q * (failure_of p - start_of p)) ≡ q * (failure_of p - start_of p) =
    rw (mul-sub q (failure_of p) (start_of p)) (numbers (1000 * n) (q * start_of p) (q * failure_of p) h) in
    rw e (turned (slow_rate p) q (failure_of p - start_of p))
  where
    numbers : (a b c : ℕ) → c ≤ a → min (a - b) (c - b) ≡ c - b
    numbers a b c h = omega arith

    turned : (r q t : ℕ) → 2 * r * (q * t) ≡ 2 * q * (r * t)
    turned r q t = omega arith

-- how much of x a way takes
unfoldable pub reach : List Stretch → ℕ → ℕ
reach [] q = 0
reach (s ∷ ss) q = q * fast_part s + 2 * q * settled_part s + reach ss q

past_first : (a b c x : ℕ) → a + b + c ≤ x → a + b ≤ x
past_first a b c x h = omega arith

-- past that, the char has come to the back face
pub reached : (a back : ℕ) (ss : List Stretch) (x q : ℕ) → Chain a back ss → reach ss q ≤ x → 2 * q * back ≤ 2 * q * a + charred ss x q
unfolding reach
reached a back (s ∷ []) x q (last from to exact) h =
    rw (charred_past s [] x q (past_first (q * fast_part s) (2 * q * settled_part s) 0 x h))
    (numbers q a s.from (fast_part s) (settled_part s) s.to back
    (charred [] (x - q * fast_part s - 2 * q * settled_part s) q) from to (parts_cover s))
  where
    numbers :
        (q a b f t d back g : ℕ) → b ≡ a → d ≡ back → d ≤ b + f + t → 2 * q * back ≤ 2 * q * a + (2 * q * f + 2 * q * t + g)
    numbers q a b f t d back g e k h =
        let l : q * back ≤ q * (a + f + t) = mul-le-mul_left q (let z : back ≤ a + f + t = omega arith in z) in
        omega arith
reached a back (s ∷ ss) x q (next from deeper exact c) h =
    rw (charred_past s ss x q (past_first (q * fast_part s) (2 * q * settled_part s) (reach ss q) x h))
    (numbers q a s.from (fast_part s) (settled_part s) s.to (2 * q * back)
    (charred ss (x - q * fast_part s - 2 * q * settled_part s) q) from (parts s deeper)
    (reached s.to back ss (x - q * fast_part s - 2 * q * settled_part s) q c
    (there (q * fast_part s) (2 * q * settled_part s) (reach ss q) x h)))
  where
    there : (a b c x : ℕ) → a + b + c ≤ x → c ≤ x - a - b
    there a b c x h = omega arith

    numbers :
        (q a b f t d z g : ℕ) → b ≡ a → b + f + t ≡ d → z ≤ 2 * q * d + g → z ≤ 2 * q * a + (2 * q * f + 2 * q * t + g)
    numbers q a b f t d z g e k h =
        let l : q * (a + f + t) ≡ q * d = ap (λ (i : ℕ). q * i) (rw e at k) in
        omega arith
reached a back [] x q on h = elim on [ ]

-- the way is not at its end while the char is not at the back face
pub way_not_over : (p : Panel) (n q : ℕ) → char_at p n q < 2 * q * back_face p → q * failure_of p ≤ 1000 * n
    → 2 * plain_rate p * (1000 * n - q * failure_of p) < reach (way p) q
way_not_over p n q short late = go (dec_le (reach (way p) q) (2 * plain_rate p * (1000 * n - q * failure_of p)))
  where
    never : (b a g c u : ℕ) → b ≤ a + g → c ≡ u + g → u ≡ a → c < b → ⊥
    never b a g c u h e f k = omega arith

    go : Dec (reach (way p) q ≤ 2 * plain_rate p * (1000 * n - q * failure_of p)) → 2 * plain_rate p * (1000 * n - q * failure_of p) < reach (way p) q
    go (no h) = omega arith
    go (yes h) =
        absurd
        (never (2 * q * back_face p) (2 * q * depth_at_failure p) (after_at p n q) (char_at p n q) (under_at p n q)
        (reached (depth_at_failure p) (back_face p) (way p) (2 * plain_rate p * (1000 * n - q * failure_of p)) q (way_chain p) h)
        (char_parts p n q short) (under_full p n q late) short)

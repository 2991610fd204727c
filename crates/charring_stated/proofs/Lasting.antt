-- Each phase lasts: from any time on, the panel stays in its phase for a while.
use Prim.Native.Nat.{ℕ, suc, ◌+◌, ◌-◌, ◌*◌, ◌≤◌, ◌<◌}
use mathlib.Core.Path.{◌≡◌, refl, sym, ap, ◌∙◌}
use mathlib.Core.List.{List, [], ◌∷◌}
use native.Mathlib.Omega.{arith}
use native.Mathlib.Nat.{mul-le-mul_left, mul-le-mul_right, lt_of_mul-lt-mul_left, lt_of_mul-lt-mul_right, le_of_mul-le-mul_right, le_of_mul-le-mul_left}
use Rattle.panel.specs.declared.Panel.{Panel}
use Rattle.charring.specs.Rates.{start_of, failure_of, plain_rate, back_face}
use Rattle.charring.specs.Way.{Stretch, way, fast_part, settled_part}
use Rattle.charring.specs.Depths.{char_at}
use Rattle.phases.specs.Phases.{phase_on, phase_at}
use Rattle.charring.proofs.DepthLaws.{char_speed, char_ramp, char_no_less}
use Rattle.phases.proofs.PhaseCases.{Where, through, untouched, under, onward, where_at, at_through, at_untouched, at_under, at_way}
use Rattle.phases.proofs.PhaseCases.{WhereOn, fast, settled, rest, where_on, on_fast, on_settled, on_rest}
use Rattle.charring_stated.proofs.Runs.{on_empty}
use Rattle.charring_stated.proofs.PhaseLaws.{Throughout}

-- On a way: from x/q to any z/s before (x + 1)/q

module _ (x q z s : ℕ) (pos : 0 < q) (low : x * s ≤ z * q) (high : z * q < suc x * s) where
  -- a bound that x has reached, z has
  reached : (b : ℕ) → q * b ≤ x → s * b ≤ z
  reached b h =
      let l : q * b * s ≤ x * s = mul-le-mul_right s h in
      le_of_mul-le-mul_right (let k : s * b * q ≤ z * q = omega arith in k) pos

  -- a bound that x is short of, z is short of
  short : (b : ℕ) → x < q * b → z < s * b
  short b h =
      let l : suc x * s ≤ q * b * s = mul-le-mul_right s h in
      lt_of_mul-lt-mul_right q (let k : z * q < s * b * q = omega arith in k)

pub on_lasting : (ss : List Stretch) (x q z s : ℕ) → 0 < q → x * s ≤ z * q → z * q < suc x * s → phase_on ss z s ≡ phase_on ss x q
on_lasting [] x q z s pos low high = on_empty z s ∙ sym (on_empty x q)
on_lasting (t ∷ ss) x q z s pos low high =
    go (where_on t ss x q) (on_lasting ss (x - q * fast_part t - 2 * q * settled_part t) q (z - s * fast_part t - 2 * s * settled_part t) s pos)
  where
    sum : (q f r : ℕ) → q * f + 2 * q * r ≡ q * (f + 2 * r)
    sum q f r = omega arith

    back : (x a b : ℕ) → a + b ≤ x → x ≡ x - a - b + (a + b)
    back x a b h = omega arith

    left_low :
        (X Z x q z s f r : ℕ) → x ≡ X + (q * f + 2 * q * r) → z ≡ Z + (s * f + 2 * s * r) → x * s ≤ z * q → X * s ≤ Z * q
    left_low X Z x q z s f r d e l =
        let m : (X + (q * f + 2 * q * r)) * s ≤ (Z + (s * f + 2 * s * r)) * q = rw (d, e) at l in
        omega arith

    left_high :
        (X Z x q z s f r : ℕ) → x ≡ X + (q * f + 2 * q * r) → z ≡ Z + (s * f + 2 * s * r) → z * q < suc x * s → Z * q < suc X * s
    left_high X Z x q z s f r d e l =
        let m : (Z + (s * f + 2 * s * r)) * q < suc (X + (q * f + 2 * q * r)) * s = rw (d, e) at l in
        omega arith

    go :
        WhereOn t ss x q
        → ((x - q * fast_part t - 2 * q * settled_part t) * s ≤ (z - s * fast_part t - 2 * s * settled_part t) * q
        → (z - s * fast_part t - 2 * s * settled_part t) * q < suc (x - q * fast_part t - 2 * q * settled_part t) * s
        → phase_on ss (z - s * fast_part t - 2 * s * settled_part t) s ≡ phase_on ss (x - q * fast_part t - 2 * q * settled_part t) q)
        → phase_on (t ∷ ss) z s ≡ phase_on (t ∷ ss) x q
    go (fast h e) later = on_fast t ss z s (short x q z s pos low high (fast_part t) h) ∙ sym e
    go (settled h k e) later =
        on_settled t ss z s (reached x q z s pos low high (fast_part t) h)
        (rw (sum s (fast_part t) (settled_part t))
        (short x q z s pos low high (fast_part t + 2 * settled_part t) (rw (sum q (fast_part t) (settled_part t)) at k)))
        ∙ sym e
    go (rest h e) later =
        let k : s * fast_part t + 2 * s * settled_part t ≤ z =
        rw (sum s (fast_part t) (settled_part t))
        (reached x q z s pos low high (fast_part t + 2 * settled_part t) (rw (sum q (fast_part t) (settled_part t)) at h)) in
        let f : ℕ = fast_part t in
        let r : ℕ = settled_part t in
        on_rest t ss z s k
        ∙ later (left_low (x - q * f - 2 * q * r) (z - s * f - 2 * s * r) x q z s f r (back x (q * f) (2 * q * r) h)
        (back z (s * f) (2 * s * r) k) low)
        (left_high (x - q * f - 2 * q * r) (z - s * f - 2 * s * r) x q z s f r (back x (q * f) (2 * q * r) h) (back z (s * f) (2 * s * r) k) high)
        ∙ sym e

-- At a time

-- a phase lasts 1/(`lasting` · q) minutes and more
abbrev pub lasting : Panel → ℕ
lasting p = char_speed p + 1001

module _ (k n q r s : ℕ) (here : 0 < s) (from : k * n * s ≤ r * (k * q)) (to : r * (k * q) ≤ (k * n + 1) * s) where
  -- r/s is not before n/q
  not_before : 0 < k → n * s ≤ r * q
  not_before h = le_of_mul-le-mul_left (let l : k * (n * s) ≤ k * (r * q) = omega arith in l) h

  -- and so soon after it that nothing reaches the next whole number, at a rate below k
  soon : (c x z : ℕ) → c < k → (d : ℕ) → x * s + d ≡ c * n * s → z * q + d ≡ c * r * q → z * q < suc x * s
  soon c x z h d e f = lt_of_mul-lt-mul_left k (let l : k * (z * q) < k * (suc x * s) = below in l)
    where
      below : k * (z * q) < k * (suc x * s)
      below =
          let a : c * (r * (k * q)) ≤ c * ((k * n + 1) * s) = mul-le-mul_left c to in
          let b : suc c * s ≤ k * s = mul-le-mul_right s h in
          let g : k * (x * s + d) ≡ k * (c * n * s) = ap (λ (i : ℕ). k * i) e in
          let i : k * (z * q + d) ≡ k * (c * r * q) = ap (λ (i : ℕ). k * i) f in
          omega arith

-- charred through, and through later
through_later : (p : Panel) (n q r s : ℕ) → 0 < q → n * s ≤ r * q → 2 * q * back_face p ≤ char_at p n q → 2 * s * back_face p ≤ char_at p r s
through_later p n q r s pos h k = numbers (char_at p n q) (char_at p r s) (back_face p) q s pos (char_no_less p n q r s h) k
  where
    numbers : (c d b q s : ℕ) → 0 < q → c * s ≤ d * q → 2 * q * b ≤ c → 2 * s * b ≤ d
    numbers c d b q s pos h k =
        let l : 2 * q * b * s ≤ c * s = mul-le-mul_right s k in
        le_of_mul-le-mul_right (let m : 2 * s * b * q ≤ d * q = omega arith in m) pos

-- short of the back face, and a little later too
short_soon : (p : Panel) (n q r s : ℕ) → 0 < s → r * (lasting p * q) ≤ (lasting p * n + 1) * s → char_at p n q < 2 * q * back_face p
    → char_at p r s < 2 * s * back_face p
short_soon p n q r s here to h =
    let k : ℕ = lasting p in
    numbers (char_at p r s) (char_at p n q) (char_at p (k * n) (k * q)) (char_at p (k * n + 1) (k * q)) k (char_speed p) q s (back_face p) here
    (omega arith) (char_no_less p r s (k * n + 1) (k * q) to) ((char_ramp p).slow (k * n) (k * n + 1) 1 (k * q) (omega arith))
    ((char_ramp p).scaled k n q) h
  where
    numbers :
        (c d e g k v q s b : ℕ) → 0 < s → v < k → c * (k * q) ≤ g * s → g ≤ e + v * 1 → e ≡ k * d → d < 2 * q * b → c < 2 * s * b
    numbers c d e g k v q s b here above h l m i =
        let x : g * s ≤ (k * d + v) * s = mul-le-mul_right s (let y : g ≤ k * d + v = omega arith in y) in
        let w : suc v * s ≤ k * s = mul-le-mul_right s above in
        let z : k * s * suc d ≤ k * s * (2 * q * b) = mul-le-mul_left (k * s) i in
        lt_of_mul-lt-mul_right (k * q) (let y : c * (k * q) < 2 * s * b * (k * q) = omega arith in y)

-- from n/q on, up to 1/(`lasting` · q) later
pub persists : (p : Panel) (n q : ℕ) → 0 < q → Throughout p (phase_at p n q) (lasting p * n) (lasting p * n + 1) (lasting p * q)
persists p n q pos r s here from to = go (where_at p n q)
  where
    P : ℕ
    P = 2 * plain_rate p

    order : n * s ≤ r * q
    order = not_before (lasting p) n q r s here from to (omega arith)

    low : 1000 * n * s ≤ 1000 * r * q
    low = omega (arith, order)

    high : 1000 * r * q < suc (1000 * n) * s
    high = soon (lasting p) n q r s here from to 1000 (1000 * n) (1000 * r) (omega arith) 0 (omega arith) (omega arith)

    -- what a time has to do with t_ch and t_f, it has a little later
    past : (b : ℕ) → q * b ≤ 1000 * n → s * b ≤ 1000 * r
    past = reached (1000 * n) q (1000 * r) s pos low high

    before : (b : ℕ) → 1000 * n < q * b → 1000 * r < s * b
    before = short (1000 * n) q (1000 * r) s pos low high

    apart : (P N n q f g s : ℕ) → 1000 * n ≡ N + q * f → g ≡ P * (q * f) * s → P * N * s + g ≡ P * 1000 * n * s
    apart P N n q f g s e h =
        let l : P * (1000 * n) * s ≡ P * (N + q * f) * s = ap (λ (i : ℕ). P * i * s) e in
        omega arith

    back : (a b : ℕ) → b ≤ a → a ≡ a - b + b
    back a b h = omega arith

    later : (P a b q s : ℕ) → a * s ≤ b * q → P * a * s ≤ P * b * q
    later P a b q s h =
        let l : P * (a * s) ≤ P * (b * q) = mul-le-mul_left P h in
        omega arith

    less : (N R n r q s f : ℕ) → 1000 * n ≡ N + q * f → 1000 * r ≡ R + s * f → n * s ≤ r * q → N * s ≤ R * q
    less N R n r q s f d e h =
        let a : 1000 * n * s ≡ (N + q * f) * s = ap (λ (i : ℕ). i * s) d in
        let b : 1000 * r * q ≡ (R + s * f) * q = ap (λ (i : ℕ). i * q) e in
        omega arith

    go : Where p n q → phase_at p r s ≡ phase_at p n q
    go (through h e) = at_through p r s (through_later p n q r s pos order h) ∙ sym e
    go (untouched h l e) = at_untouched p r s (short_soon p n q r s here to h) (before (start_of p) l) ∙ sym e
    go (under h l m e) =
        at_under p r s (short_soon p n q r s here to h) (past (start_of p) l) (before (failure_of p) m) ∙ sym e
    go (onward h l m e) =
        let N : ℕ = 1000 * n - q * failure_of p in
        let R : ℕ = 1000 * r - s * failure_of p in
        let g : ℕ = P * (q * failure_of p) * s in
        let d : 1000 * n ≡ N + q * failure_of p = back (1000 * n) (q * failure_of p) m in
        let f : 1000 * r ≡ R + s * failure_of p = back (1000 * r) (s * failure_of p) (past (failure_of p) m) in
        at_way p r s (short_soon p n q r s here to h) (past (start_of p) l) (past (failure_of p) m)
        ∙ on_lasting (way p) (P * N) q (P * R) s pos (later P N R q s (less N R n r q s (failure_of p) d f order))
        (soon (lasting p) n q r s here from to (P * 1000) (P * N) (P * R) (omega arith) g (apart P N n q (failure_of p) g s d refl)
        (apart P R r s (failure_of p) g q f (omega arith)))
        ∙ sym e

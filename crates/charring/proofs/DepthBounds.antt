-- The depths at time 0 and at most: nothing at time 0, never past the back face, and the effective depth no less than the char depth.
use Prim.Native.Nat.{ℕ, ◌+◌, ◌-◌, ◌*◌, ◌≤◌, ◌<◌, min}
use mathlib.Core.Path.{◌≡◌}
use native.Mathlib.Omega.{arith}
use native.Mathlib.Nat.{min-le_right, mul-le-mul_left}
use Rattle.panel.specs.declared.Panel.{Panel}
use Rattle.panel.specs.Lamellae.{lamellae, thickness}
use Rattle.charring.specs.Rates.{tenth, start_of, failure_of, plain_rate, back_face}
use Rattle.charring.specs.Way.{way}
use Rattle.charring.specs.Depths.{under_at, after_at, char_at, full_at, effective_at, micrometres_at, tenths_at}
use Rattle.charring.proofs.Rounding.{up_least}
use Rattle.charring.proofs.WayLaws.{charred_none}
use Rattle.charring.proofs.DepthLaws.{unit_positive}

-- "Depth stops at the panel's thickness."
pub char_within : (p : Panel) (n q : ℕ) → char_at p n q ≤ 2 * q * back_face p
unfolding char_at
char_within p n q = min-le_right (under_at p n q + after_at p n q) (2 * q * back_face p)

pub effective_within : (p : Panel) (n q : ℕ) → effective_at p n q ≤ 2 * q * full_at p * back_face p
unfolding effective_at
effective_within p n q =
    min-le_right (full_at p * char_at p n q + 140 * tenth * min (1000 * n) (q * full_at p)) (2 * q * full_at p * back_face p)

-- and rounded up: a tenth of mm is 100 micrometres
pub micrometres_within : (p : Panel) (n q : ℕ) → 0 < q → micrometres_at p n q ≤ 100 * thickness (lamellae p)
micrometres_within p n q h =
    up_least (char_at p n q) (2000000 * q) (100 * thickness (lamellae p)) (omega arith)
    (numbers (char_at p n q) q (thickness (lamellae p)) (char_within p n q))
  where
    numbers : (c q t : ℕ) → c ≤ 2 * q * (tenth * t) → c ≤ 100 * t * (2000000 * q)
    numbers c q t h = omega arith

pub tenths_within : (p : Panel) (n q : ℕ) → 0 < q → tenths_at p n q ≤ thickness (lamellae p)
tenths_within p n q h =
    up_least (effective_at p n q) (2 * tenth * (q * full_at p)) (thickness (lamellae p)) (unit_positive p q h)
    (numbers (effective_at p n q) q (full_at p) (thickness (lamellae p)) (effective_within p n q))
  where
    numbers : (c q f t : ℕ) → c ≤ 2 * q * f * (tenth * t) → c ≤ t * (2 * tenth * (q * f))
    numbers c q f t h = omega arith

-- the effective depth is no less than the char depth
pub char_effective : (p : Panel) (n q : ℕ) → full_at p * char_at p n q ≤ effective_at p n q
unfolding effective_at
char_effective p n q =
    numbers (full_at p) (char_at p n q) q (back_face p) (140 * tenth * min (1000 * n) (q * full_at p)) (char_within p n q)
  where
    least : (a b c : ℕ) → a ≤ c → a ≤ min (a + b) c
    least a b c h = omega arith

    numbers : (f c q b k : ℕ) → c ≤ 2 * q * b → f * c ≤ min (f * c + k) (2 * q * f * b)
    numbers f c q b k h =
        let l : f * c ≤ f * (2 * q * b) = mul-le-mul_left f h in
        least (f * c) k (2 * q * f * b) (omega arith)

-- Time 0

pub char_zero : (p : Panel) (q : ℕ) → char_at p 0 q ≡ 0
unfolding char_at
char_zero p q =
    let e : 1000 * 0 - q * failure_of p ≡ 0 = omega arith in
    let z : 2 * plain_rate p * 0 ≡ 0 = omega arith in
    let late : after_at p 0 q ≡ 0 = rw (e, z) (charred_none (way p) q) in
    let f : min (1000 * 0 - q * start_of p) (q * (failure_of p - start_of p)) ≡ 0 = none (q * start_of p) (q * (failure_of p - start_of p)) in
    let early : under_at p 0 q ≡ 0 = rw f (omega arith) in
    numbers (under_at p 0 q) (after_at p 0 q) (2 * q * back_face p) early late
  where
    none : (a b : ℕ) → min (1000 * 0 - a) b ≡ 0
    none a b = omega arith

    numbers : (u a b : ℕ) → u ≡ 0 → a ≡ 0 → min (u + a) b ≡ 0
    numbers u a b h k = omega arith

pub effective_zero : (p : Panel) (q : ℕ) → effective_at p 0 q ≡ 0
unfolding effective_at
effective_zero p q = numbers (full_at p) (char_at p 0 q) (q * full_at p) (2 * q * full_at p * back_face p) (char_zero p q)
  where
    numbers : (f c k b : ℕ) → c ≡ 0 → min (f * c + 140 * tenth * min (1000 * 0) k) b ≡ 0
    numbers f c k b h =
        let e : f * c ≡ 0 = rw h (omega arith) in
        omega arith

pub tenths_zero : (p : Panel) (q : ℕ) → 0 < q → tenths_at p 0 q ≡ 0
tenths_zero p q h =
    let l : tenths_at p 0 q ≤ 0 =
    up_least (effective_at p 0 q) (2 * tenth * (q * full_at p)) 0 (unit_positive p q h) (omega (arith, effective_zero p q)) in
    omega arith

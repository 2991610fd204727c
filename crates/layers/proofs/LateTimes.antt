-- The late layer time: the numbers with 4·n²·S ≤ t³, where t < 2S.
use Prim.Native.Nat.{ℕ, ◌+◌, ◌*◌, ◌<◌, ◌≤◌}
use mathlib.Core.Path.{◌≡◌, refl}
use mathlib.Core.Bool.{Bool, true, false}
use native.Mathlib.Omega.{arith}
use native.Mathlib.Nat.{le_trans, mul-le-mul, mul-le-mul_left, mul-le-mul_right}
use borrow.Author.Tests.{leb-true, le-leb, lt-leb}
use Rattle.numbers.specs.Largest.{IsLargest}
use Rattle.numbers.proofs.Booleans.{not_both}
use Rattle.numbers.proofs.LargestKept.{largest_found, largest_within}
use Rattle.layers.specs.Layers.{late_keeps, positioned}

-- smaller numbers keep the test too
pub late_down : (s t m n : ℕ) → m ≤ n → late_keeps s t n ≡ true → late_keeps s t m ≡ true
late_down s t m n h e =
    let k : 4 * n * n * s ≤ t * t * t = leb-true (4 * n * n * s) (t * t * t) e in
    let less : 4 * m * m * s ≤ 4 * n * n * s = mul-le-mul_right s (mul-le-mul (mul-le-mul_left 4 h) h) in
    le-leb (4 * m * m * s) (t * t * t) (le_trans less k)

-- 0 keeps it
pub late_zero : (s t : ℕ) → late_keeps s t 0 ≡ true
late_zero s t = le-leb (4 * 0 * 0 * s) (t * t * t) (omega arith)

-- no number above t keeps it
pub late_beyond : (s t : ℕ) → t < 2 * s → late_keeps s t (t + 1) ≡ false
late_beyond s t h =
    let k : t + 1 ≤ 2 * s = omega arith in
    lt-leb (4 * (t + 1) * (t + 1) * s) (t * t * t) (omega (arith, mul-le-mul_left (2 * (t + 1) * (t + 1)) k))

-- What the layer step says

-- the difference t − 0.6·S is never cut off at 0
pub early_whole : (s t : ℕ) → 2 * s ≤ t → 3 * s ≤ 5 * t
early_whole s t h = omega arith

-- and it is rounded down as a whole: the largest n with 5n + 3S ≤ 5t
pub early_floor : (s t : ℕ) → 2 * s ≤ t → (5 * positioned s t + 3 * s ≤ 5 * t) × (5 * t < 5 * (positioned s t + 1) + 3 * s)
unfolding positioned
early_floor s t h = rw (positioned, le-leb (2 * s) t h) (omega arith)

-- the late layer time is at most t
pub late_within : (s t : ℕ) → t < 2 * s → positioned s t ≤ t
unfolding positioned
late_within s t late = rw (positioned, lt-leb (2 * s) t late) (largest_within (late_keeps s t) t)

-- the late layer time is the largest of all numbers with 4·n²·S ≤ t³, and not only of those up to t
pub late_largest : (s t : ℕ) → t < 2 * s → IsLargest (late_keeps s t) (positioned s t)
unfolding positioned
late_largest s t h =
    rw (positioned, lt-leb (2 * s) t h)
    (largest_found (late_keeps s t) t (late_zero s t) (λ m k. go m k (late_keeps s t m) refl))
  where
    go : (m : ℕ) → t < m → (b : Bool) → late_keeps s t m ≡ b → late_keeps s t m ≡ false
    go m k true e =
        let less : t + 1 ≤ m = omega arith in
        let kept : late_keeps s t (t + 1) ≡ true = late_down s t (t + 1) m less e in
        absurd (not_both (late_keeps s t (t + 1)) kept (late_beyond s t h))
    go m k false e = e

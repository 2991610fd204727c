-- `round_up n d` is the least number of d that covers n, and so it keeps the order of fractions.
use Prim.Native.Nat.{ℕ, suc, ◌+◌, ◌-◌, ◌*◌, ◌/◌, ◌≤◌, ◌<◌}
use native.Mathlib.Omega.{arith}
use native.Mathlib.Nat.{mul-le-mul_right, le_of_mul-le-mul_right, div-lt_iff_lt-mul}
use Rattle.charring.specs.Depths.{round_up}

-- it covers n
pub up_covers : (n d : ℕ) → 0 < d → n ≤ round_up n d * d
up_covers n d h =
    let l : n + (d - 1) < suc ((n + (d - 1)) / d) * d = (div-lt_iff_lt-mul h).0 (omega arith) in
    omega arith

-- and is the least that does
pub up_least : (n d k : ℕ) → 0 < d → n ≤ k * d → round_up n d ≤ k
up_least n d k h l =
    let z : (n + (d - 1)) / d < suc k = (div-lt_iff_lt-mul h).1 (omega arith) in
    omega arith

-- of two fractions the greater is rounded up no lower
pub up_across : (n d m e : ℕ) → 0 < d → 0 < e → n * e ≤ m * d → round_up n d ≤ round_up m e
up_across n d m e h k l =
    let up : ℕ = round_up m e in
    let covered : m * d ≤ up * e * d = mul-le-mul_right d (up_covers m e k) in
    let wide : n * e ≤ up * d * e = through n e m d up l covered in
    up_least n d up h (le_of_mul-le-mul_right wide k)
  where
    through : (n e m d u : ℕ) → n * e ≤ m * d → m * d ≤ u * e * d → n * e ≤ u * d * e
    through n e m d u h k = omega arith

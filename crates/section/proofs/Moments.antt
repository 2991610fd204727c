-- The inequality of moments, 3P² ≤ 4NQ: it holds for one part, from a to a + d, and goes over to a sum of two sections.
-- Assumes nothing.
use Prim.Native.Nat.{ℕ, ◌+◌, ◌-◌, ◌*◌, ◌≤◌, ◌<◌}
use mathlib.Core.Path.{◌≡◌}
use native.Mathlib.Nat.{mul-add, add-mul, mul_assoc, mul_comm, mul_left_comm, mul-le-mul, lt_of_not-le}
use native.Mathlib.Decide.{dec_le}
use native.Mathlib.Omega.{arith}

ruleset spread = (mul-add, add-mul, mul_assoc, mul_comm, mul_left_comm)

-- "4uv ≤ (u + v)²" where v is u + d
means_apart : (u d : ℕ) → 4 * (u * (u + d)) ≤ (u + (u + d)) * (u + (u + d))
means_apart u d = simp spread (omega arith)

-- "4uv ≤ (u + v)²"
means : (u v : ℕ) → 4 * (u * v) ≤ (u + v) * (u + v)
means u v =
    elim (dec_le u v) [
      | yes h ↦
          let e : u + (v - u) ≡ v = omega arith in
          rw e at (means_apart u (v - u))
      | no h ↦
          let e : v + (u - v) ≡ u = omega arith in
          let m = rw e at (means_apart v (u - v)) in
          simp spread (omega (arith, simp spread at m))
    ]

-- the greater number has the greater square
squares_below : (x y : ℕ) → y < x → y * y < x * x
squares_below x y h = omega (arith, mul-le-mul {n₁ = y + 1} {m₁ = y + 1} {n₂ = x} {m₂ = x} (omega arith) (omega arith))

root_le : (x y : ℕ) → x * x ≤ y * y → x ≤ y
root_le x y h =
    elim (dec_le x y) [
      | yes k ↦ k
      | no k ↦ absurd (omega (arith, squares_below x y (lt_of_not-le k)))
    ]

-- the mixed terms of two sections
mixed : (N P Q n p q : ℕ) → 3 * (P * P) ≤ 4 * (N * Q) → 3 * (p * p) ≤ 4 * (n * q) → 3 * (P * p) ≤ 2 * (N * q + n * Q)
mixed N P Q n p q one two =
    let product : 3 * (P * P) * (3 * (p * p)) ≤ 4 * (N * Q) * (4 * (n * q)) = mul-le-mul one two in
    let apart = means (N * q) (n * Q) in
    root_le (3 * (P * p)) (2 * (N * q + n * Q)) (simp spread (omega (arith, simp spread at product, apart)))

-- where it holds of two sections, it holds of their sums
pub moments_add : (N P Q n p q : ℕ) → 3 * P * P ≤ 4 * N * Q → 3 * p * p ≤ 4 * n * q → 3 * (P + p) * (P + p) ≤ 4 * (N + n) * (Q + q)
moments_add N P Q n p q one two =
    let between = mixed N P Q n p q (omega arith) (omega arith) in
    omega arith

-- and 4NQ − 3P² of the sums is no less than of one of the two
pub inertia_adds : (N P Q n p q : ℕ) → 3 * P * P ≤ 4 * N * Q → 3 * p * p ≤ 4 * n * q
    → 4 * n * q - 3 * p * p ≤ 4 * (N + n) * (Q + q) - 3 * (P + p) * (P + p)
inertia_adds N P Q n p q one two =
    let between = mixed N P Q n p q (omega arith) (omega arith) in
    omega arith

-- one part: N is d, P is 2ad + d², Q is 3a²d + 3ad² + d³
pub square_part : (a d : ℕ) → (a + d) * (a + d) - a * a ≡ 2 * (a * d) + d * d
square_part a d = omega arith

cube_part : (a d : ℕ) → (a + d) * (a + d) * (a + d) - a * a * a ≡ 3 * (a * a * d) + 3 * (a * d * d) + d * d * d
cube_part a d = omega arith

moments_apart : (a d : ℕ)
    → 3 * (2 * (a * d) + d * d) * (2 * (a * d) + d * d) ≤ 4 * d * (3 * (a * a * d) + 3 * (a * d * d) + d * d * d)
moments_apart a d = simp spread (omega arith)

-- it holds of one part, from a to b
pub moments_part : (a b : ℕ) → a ≤ b → 3 * (b * b - a * a) * (b * b - a * a) ≤ 4 * (b - a) * (b * b * b - a * a * a)
moments_part a b h =
    let e : a + (b - a) ≡ b = omega arith in
    let s = rw e at (square_part a (b - a)) in
    let c = rw e at (cube_part a (b - a)) in
    rw (s, c) (moments_apart a (b - a))

-- 2N·t ≤ P of one part that begins no sooner than t
above_apart : (t a d : ℕ) → t ≤ a → 2 * d * t ≤ (a + d) * (a + d) - a * a
above_apart t a d h =
    let k = mul-le-mul {n₁ = d} {n₂ = d} (omega arith) h in
    omega arith

pub part_above : (t a b : ℕ) → t ≤ a → a ≤ b → 2 * (b - a) * t ≤ b * b - a * a
part_above t a b h forward =
    let e : a + (b - a) ≡ b = omega arith in
    rw e at (above_apart t a (b - a) h)

-- P ≤ 2N·t of one part that ends no later than t
below_apart : (t a d : ℕ) → a + d ≤ t → (a + d) * (a + d) - a * a ≤ 2 * d * t
below_apart t a d h =
    let k = mul-le-mul {n₁ = d} {n₂ = d} (omega arith) h in
    omega arith

pub part_below : (t a b : ℕ) → b ≤ t → a ≤ b → b * b - a * a ≤ 2 * (b - a) * t
part_below t a b h forward =
    let e : a + (b - a) ≡ b = omega arith in
    rw e at (below_apart t a (b - a) (omega arith))

-- both go over to the sums of two sections
pub above_add : (n N p P t : ℕ) → 2 * n * t ≤ p → 2 * N * t ≤ P → 2 * (n + N) * t ≤ p + P
above_add n N p P t one two = omega arith

pub below_add : (n N p P t : ℕ) → p ≤ 2 * n * t → P ≤ 2 * N * t → p + P ≤ 2 * (n + N) * t
below_add n N p P t one two = omega arith

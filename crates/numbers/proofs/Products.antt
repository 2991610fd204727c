-- Products: bounds from bounds on the factors, and a factor that goes into others. What stands in the kit too, as `mul-le-mul`, is kept as it
-- is: all numbers are written out, so that omega can be handed it.
use Prim.Native.Nat.{ℕ, ◌*◌, ◌^◌, ◌≤◌, ◌+◌, min, zero, suc, ◌<◌}
use native.Mathlib.Nat.{mul-le-mul, mul-le-mul_left, mul-le-mul_right, mul-mul-mul_comm, mul-lt-mul_of_pos_left, pow-zero, pow-suc, min-eq_left, min-eq_right}
use mathlib.Core.Path.{◌≡◌, sym, ap, ap₂, ◌∙◌}
use native.Mathlib.Omega.{arith}
use borrow.Author.Tests.{le-leb, lt-leb}
use lib.Dec.{leb}
use native.Mathlib.Decide.{dec_le}

pub times : (a A b B : ℕ) → a ≤ A → b ≤ B → a * b ≤ A * B
times a A b B h k = mul-le-mul h k

pub square_rises : (a b : ℕ) → a ≤ b → a * a ≤ b * b
square_rises a b h = mul-le-mul h h

pub cube_rises : (a b : ℕ) → a ≤ b → a * a * a ≤ b * b * b
cube_rises a b h = mul-le-mul (mul-le-mul h h) h

pub power_of_product : (a b n : ℕ) → (a * b) ^ n ≡ a ^ n * b ^ n
power_of_product a b zero = pow-zero (a * b) ∙ sym (ap₂ (λ (x y : ℕ). x * y) (pow-zero a) (pow-zero b))
power_of_product a b (suc n) =
    pow-suc (a * b) n
    ∙ ap (λ (x : ℕ). x * (a * b)) (power_of_product a b n)
    ∙ mul-mul-mul_comm (a ^ n) (b ^ n) a b
    ∙ sym (ap₂ (λ (x y : ℕ). x * y) (pow-suc a n) (pow-suc b n))

-- a factor goes into `min`
pub mul_min : (k a b : ℕ) → k * min a b ≡ min (k * a) (k * b)
mul_min k a b = go (dec_le a b)
  where
    go : Dec (a ≤ b) → k * min a b ≡ min (k * a) (k * b)
    go (yes h) = ap (λ (x : ℕ). k * x) (min-eq_left h) ∙ sym (min-eq_left (mul-le-mul_left k h))
    go (no h) =
        let l : b ≤ a = omega arith in
        ap (λ (x : ℕ). k * x) (min-eq_right l) ∙ sym (min-eq_right (mul-le-mul_left k l))

-- a factor goes into both sides of a test
pub leb_scaled : (k a b : ℕ) → 0 < k → leb (k * a) (k * b) ≡ leb a b
leb_scaled k a b some = go (dec_le a b)
  where
    go : Dec (a ≤ b) → leb (k * a) (k * b) ≡ leb a b
    go (yes h) = le-leb (k * a) (k * b) (mul-le-mul_left k h) ∙ sym (le-leb a b h)
    go (no h) = lt-leb (k * a) (k * b) (mul-lt-mul_of_pos_left (omega arith) some) ∙ sym (lt-leb a b (omega arith))

-- two parts that together grow by at most e, one at the rate r and one at a rate c no lower, grow by at most c * e
pub two_rates : (r c a b e : ℕ) → r ≤ c → a + b ≤ e → r * a + c * b ≤ c * e
two_rates r c a b e h k =
    let low : r * a ≤ c * a = mul-le-mul_right a h in
    let all : c * (a + b) ≤ c * e = mul-le-mul_left c k in
    omega arith

-- a product that is not 0
pub positive : (x q f : ℕ) → x < q * f → 0 < f
positive x q zero h = omega arith
positive x q (suc f) h = omega arith

-- Char depth and effective depth of any panel at any two times: they depend on the time alone, never fall, and rise no faster than a bound.
use Prim.Native.Nat.{ℕ, ◌+◌, ◌-◌, ◌*◌, ◌≤◌, ◌<◌, min}
use mathlib.Core.Path.{◌≡◌, ap}
use native.Mathlib.Omega.{arith}
use native.Mathlib.Nat.{mul-sub, mul-add, mul_assoc, min-zero, mul-le-mul_left, mul-le-mul_right, mul-pos}
use native.Mathlib.Decide.{dec_le}
use Rattle.panel.specs.declared.Cladding.{Cladding}
use Rattle.panel.specs.declared.Cladding.TheVariants.{Unclad, One, Two}
use Rattle.panel.specs.declared.Panel.{Panel}
use Rattle.panel.specs.Products.{rate_of}
use Rattle.charring.specs.Rates.{tenth, start_of, failure_of, k2, plain_rate, slow_rate, back_face}
use Rattle.charring.specs.Way.{way, charred}
use Rattle.charring.specs.Depths.{under_at, after_at, char_at, full_at, effective_at, micrometres_at, tenths_at}
use Rattle.charring.proofs.Ramps.{Ramp, same, times, steady, sum, multiple, lower, since, after, no_less, equal}
use Rattle.charring.proofs.WayRamps.{shared, charred_ramp}
use Rattle.charring.proofs.Rounding.{up_across}
use Rattle.numbers.proofs.Products.{two_rates}

-- Rates

pub k2_bound : (c : Cladding) → k2 c ≤ 10000
unfolding k2
k2_bound Unclad = omega arith
k2_bound (One b) = omega arith
k2_bound (Two outer inner) = omega arith

-- under boards the char is no faster than at β
pub slow_bound : (p : Panel) → slow_rate p ≤ plain_rate p
slow_bound p = mul-le-mul_right (rate_of p) (k2_bound p.cladding)

-- what the char depth rises by in a minute at most, half picometres: 2β
abbrev pub char_speed : Panel → ℕ
char_speed p = 4000 * plain_rate p

-- and the effective depth, times `full_at`: 7 mm within `full_at` besides
abbrev pub effective_speed : Panel → ℕ
effective_speed p = full_at p * char_speed p + 140000 * tenth

-- Char depth

under_ramp : (p : Panel) → Ramp (under_at p) (2 * slow_rate p * 1000)
under_ramp p =
    multiple (2 * slow_rate p) (λ (n q : ℕ). min (1000 * n - q * start_of p) (q * (failure_of p - start_of p))) 1000
    (lower (λ (n q : ℕ). 1000 * n - q * start_of p) (λ (n q : ℕ). q * (failure_of p - start_of p)) 1000 0 (omega arith)
    (since (λ (n q : ℕ). 1000 * n) 1000 (start_of p) (times 1000)) (steady (failure_of p - start_of p)))

-- twice what β alone would have added since t_f
base_ramp : (p : Panel) → Ramp (λ (n q : ℕ). 2 * plain_rate p * (1000 * n - q * failure_of p)) (2 * plain_rate p * 1000)
base_ramp p =
    multiple (2 * plain_rate p) (λ (n q : ℕ). 1000 * n - q * failure_of p) 1000
    (since (λ (n q : ℕ). 1000 * n) 1000 (failure_of p) (times 1000))

after_ramp : (p : Panel) → Ramp (after_at p) (2 * (2 * plain_rate p * 1000))
after_ramp p =
    after (charred (way p)) (λ (n q : ℕ). 2 * plain_rate p * (1000 * n - q * failure_of p)) 2 (2 * plain_rate p * 1000)
    (charred_ramp (way p)) (base_ramp p)

-- what lies past b, from a on
past : (n a b : ℕ) → a ≤ b → n - b ≡ n - a - (b - a)
past n a b h = omega arith

later : (n m d b : ℕ) → m ≤ n + d → 0 - 0 + (m - b - (n - b)) ≤ d
later n m d b h = omega arith

-- a step of d is shared between the time from a to b and the time from b on
from_to : (n m d a b : ℕ) → m ≤ n + d → min (m - a) (b - a) - min (n - a) (b - a) + (m - b - (n - b)) ≤ d
from_to n m d a b h = go (dec_le a b)
  where
    near : m - a ≤ n - a + d
    near = omega arith

    go : Dec (a ≤ b) → min (m - a) (b - a) - min (n - a) (b - a) + (m - b - (n - b)) ≤ d
    go (yes k) = rw (past m a b k, past n a b k) (shared (n - a) (m - a) d (b - a) near)
    go (no k) =
        let e : b - a ≡ 0 = omega arith in
        rw (e, min-zero (m - a), min-zero (n - a)) (later n m d b h)

-- two parts, each no faster than c, that share a step of e
at_rates :
    (r c u u₁ v v₁ e z : ℕ) (g : ℕ → ℕ) → r ≤ c → u₁ - u + (v₁ - v) ≤ e → g v₁ ≤ g v + c * (v₁ - v) → c * e ≡ z
    → r * u₁ + g v₁ ≤ r * u + g v + z
at_rates r c u u₁ v v₁ e z g l s k same =
    let first : r * u₁ ≤ r * (u + (u₁ - u)) = mul-le-mul_left r (let h : u₁ ≤ u + (u₁ - u) = omega arith in h) in
    together (r * u₁) (g v₁) (r * u) (g v) (r * (u₁ - u)) (c * (v₁ - v)) (c * e) z (rw mul-add at first) k
    (two_rates r c (u₁ - u) (v₁ - v) e l s) same
  where
    together : (a b x y d e f z : ℕ) → a ≤ x + d → b ≤ y + e → d + e ≤ f → f ≡ z → a + b ≤ x + y + z
    together a b x y d e f z h k l m = omega arith

-- a step of a multiple of the time
step_multiple : (f : ℕ → ℕ → ℕ) (c b v w q : ℕ) → Ramp f c → f (b * w) q ≤ f (b * v) q + c * b * (w - v)
step_multiple f c b v w q r =
    let h : w ≤ v + (w - v) = omega arith in
    let l : b * w ≤ b * (v + (w - v)) = mul-le-mul_left b h in
    rw (mul_assoc c b (w - v)) (r.slow (b * v) (b * w) (b * (w - v)) q (rw mul-add at l))

-- before t_f only the slow part grows, from then on only the other: together no faster than 2β
pub both_ramp : (p : Panel) → Ramp (λ (n q : ℕ). under_at p n q + after_at p n q) (char_speed p)
both_ramp p =
    let r = sum (under_at p) (after_at p) (2 * slow_rate p * 1000) (2 * (2 * plain_rate p * 1000)) (under_ramp p) (after_ramp p) in
    record { scaled = r.scaled; rises = r.rises; slow = λ n m d q h. step n m d q h }
  where
    step : (n m d q : ℕ) → m ≤ n + d → under_at p m q + after_at p m q ≤ under_at p n q + after_at p n q + char_speed p * d
    step n m d q h =
        let u : ℕ → ℕ = λ (k : ℕ). min (1000 * k - q * start_of p) (q * (failure_of p - start_of p)) in
        let v : ℕ → ℕ = λ (k : ℕ). 1000 * k - q * failure_of p in
        let P : ℕ = 2 * plain_rate p in
        at_rates (2 * slow_rate p) (2 * P) (u n) (u m) (v n) (v m) (1000 * d) (char_speed p * d) (λ (x : ℕ). charred (way p) (P * x) q)
        (omega (arith, slow_bound p))
        (rw (mul-sub q (failure_of p) (start_of p)) (from_to (1000 * n) (1000 * m) (1000 * d) (q * start_of p) (q * failure_of p) (omega arith)))
        (step_multiple (charred (way p)) 2 P (v n) (v m) q (charred_ramp (way p))) (omega arith)

-- "Depth stops at the panel's thickness."
pub char_ramp : (p : Panel) → Ramp (char_at p) (char_speed p)
unfolding char_at
char_ramp p =
    same (λ (n q : ℕ). min (under_at p n q + after_at p n q) (q * (2 * back_face p))) (char_at p) (char_speed p)
    (λ n q. ap (min (under_at p n q + after_at p n q)) (let e : 2 * q * back_face p ≡ q * (2 * back_face p) = omega arith in e))
    (lower (λ (n q : ℕ). under_at p n q + after_at p n q) (λ (n q : ℕ). q * (2 * back_face p)) (char_speed p) 0 (omega arith)
    (both_ramp p) (steady (2 * back_face p)))

-- Effective depth

-- "char depth + k0·7 mm, at most the panel's thickness"
pub effective_ramp : (p : Panel) → Ramp (effective_at p) (effective_speed p)
unfolding effective_at
effective_ramp p =
    same (λ (n q : ℕ). min (deep n q) (q * (2 * full_at p * back_face p))) (effective_at p) (effective_speed p)
    (λ n q. ap (min (deep n q)) (let e : 2 * q * full_at p * back_face p ≡ q * (2 * full_at p * back_face p) = omega arith in e))
    (lower deep (λ (n q : ℕ). q * (2 * full_at p * back_face p)) (effective_speed p) 0 (omega arith) deep_ramp
    (steady (2 * full_at p * back_face p)))
  where
    deep : ℕ → ℕ → ℕ
    deep n q = full_at p * char_at p n q + 140 * tenth * min (1000 * n) (q * full_at p)

    deep_ramp : Ramp deep (full_at p * char_speed p + 140 * tenth * 1000)
    deep_ramp =
        sum (λ (n q : ℕ). full_at p * char_at p n q) (λ (n q : ℕ). 140 * tenth * min (1000 * n) (q * full_at p))
        (full_at p * char_speed p) (140 * tenth * 1000) (multiple (full_at p) (char_at p) (char_speed p) (char_ramp p))
        (multiple (140 * tenth) (λ (n q : ℕ). min (1000 * n) (q * full_at p)) 1000
        (lower (λ (n q : ℕ). 1000 * n) (λ (n q : ℕ). q * full_at p) 1000 0 (omega arith) (times 1000) (steady (full_at p))))

-- At two times n/q and r/s

pub full_positive : (p : Panel) → 0 < full_at p
full_positive p = omega arith

-- a tenth of mm, in the unit of the effective depth at n/q
pub unit_positive : (p : Panel) (q : ℕ) → 0 < q → 0 < 2 * tenth * (q * full_at p)
unit_positive p q h =
    let k : 0 < q * full_at p = mul-pos h (full_positive p) in
    omega arith

by_unit : (a b q s f : ℕ) → a * s ≤ b * q → a * (2 * tenth * (s * f)) ≤ b * (2 * tenth * (q * f))
by_unit a b q s f h =
    let l : a * s * f ≤ b * q * f = mul-le-mul_right f h in
    omega arith

module _ (p : Panel) (n q r s : ℕ) where
  pub char_no_less : n * s ≤ r * q → char_at p n q * s ≤ char_at p r s * q
  char_no_less = no_less (char_at p) (char_speed p) (char_ramp p) n q r s

  pub char_equal : n * s ≡ r * q → char_at p n q * s ≡ char_at p r s * q
  char_equal = equal (char_at p) (char_speed p) (char_ramp p) n q r s

  -- a later effective depth is no less
  pub effective_no_less : n * s ≤ r * q → effective_at p n q * s ≤ effective_at p r s * q
  effective_no_less = no_less (effective_at p) (effective_speed p) (effective_ramp p) n q r s

  pub effective_equal : n * s ≡ r * q → effective_at p n q * s ≡ effective_at p r s * q
  effective_equal = equal (effective_at p) (effective_speed p) (effective_ramp p) n q r s

  pub micrometres_later : 0 < q → 0 < s → n * s ≤ r * q → micrometres_at p n q ≤ micrometres_at p r s
  micrometres_later h k l =
      up_across (char_at p n q) (2000000 * q) (char_at p r s) (2000000 * s) (omega arith) (omega arith) (omega (arith, char_no_less l))

  pub tenths_later : 0 < q → 0 < s → n * s ≤ r * q → tenths_at p n q ≤ tenths_at p r s
  tenths_later h k l =
      up_across (effective_at p n q) (2 * tenth * (q * full_at p)) (effective_at p r s) (2 * tenth * (s * full_at p))
      (unit_positive p q h) (unit_positive p s k)
      (by_unit (effective_at p n q) (effective_at p r s) q s (full_at p) (effective_no_less l))

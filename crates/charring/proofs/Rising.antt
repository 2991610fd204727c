-- From t_f on the depths rise strictly, at any rate but 0, until they come to the back face. So right after a time at which the
-- effective depth is a whole number of tenths, the next tenth is entered.
use Prim.Native.Nat.{ℕ, suc, ◌+◌, ◌-◌, ◌*◌, ◌≤◌, ◌<◌, min}
use mathlib.Core.Path.{◌≡◌, ap, ◌∙◌}
use mathlib.Core.List.{List, [], ◌∷◌}
use native.Mathlib.Omega.{arith}
use native.Mathlib.Decide.{dec_lt}
use native.Mathlib.Nat.{mul_comm, mul-pos, mul-le-mul_left, mul-lt-mul_of_pos_left, lt_of_mul-lt-mul_left, lt_of_mul-lt-mul_right, lt_of_lt_of_le}
use Rattle.panel.specs.declared.Panel.{Panel}
use Rattle.panel.specs.Products.{rate_of}
use Rattle.panel.specs.Lamellae.{lamellae, thickness}
use Rattle.charring.specs.Rates.{tenth, failure_of, plain_rate, back_face, depth_at_failure}
use Rattle.charring.specs.Way.{Stretch, way, charred, fast_part, settled_part}
use Rattle.charring.specs.Depths.{under_at, after_at, char_at, full_at, effective_at, tenths_at}
use Rattle.charring.proofs.Rounding.{up_covers}
use Rattle.charring.proofs.WayRamps.{charred_ramp}
use Rattle.charring.proofs.DepthParts.{char_parts, under_full, reach, way_not_over}
use Rattle.charring.proofs.DepthLaws.{effective_ramp, full_positive, unit_positive}
use Rattle.charring.proofs.DepthBounds.{char_effective}

-- on a way, short of its end, more of x comes deeper
charred_rises : (ss : List Stretch) (x y q : ℕ) → x < reach ss q → x < y → charred ss x q < charred ss y q
unfolding charred reach
charred_rises [] x y q short more = absurd (let z : ⊥ = omega arith in z)
charred_rises (s ∷ ss) x y q short more =
    let a : ℕ = q * fast_part s in
    let b : ℕ = 2 * q * settled_part s in
    go a b (dec_lt x (a + b)) short ((charred_ramp ss).rises (x - a - b) (y - a - b) q (past x y a b more))
    (charred_rises ss (x - a - b) (y - a - b) q)
  where
    past : (x y a b : ℕ) → x < y → x - a - b ≤ y - a - b
    past x y a b h = omega arith

    -- within the first stretch
    within : (x y a b g h : ℕ) → x < y → x < a + b → g ≤ h → 2 * min x a + min (x - a) b + g < 2 * min y a + min (y - a) b + h
    within x y a b g h more short rest = omega arith

    -- past it
    beyond : (x y a b g h : ℕ) → x < y → a + b ≤ x → g < h → 2 * min x a + min (x - a) b + g < 2 * min y a + min (y - a) b + h
    beyond x y a b g h more long rest = omega arith

    go : (a b : ℕ) → Dec (x < a + b) → x < a + b + reach ss q → charred ss (x - a - b) q ≤ charred ss (y - a - b) q
        → (x - a - b < reach ss q → x - a - b < y - a - b → charred ss (x - a - b) q < charred ss (y - a - b) q)
        → 2 * min x a + min (x - a) b + charred ss (x - a - b) q < 2 * min y a + min (y - a) b + charred ss (y - a - b) q
    go a b (yes h) short rest later = within x y a b (charred ss (x - a - b) q) (charred ss (y - a - b) q) more h rest
    go a b (no h) short rest later =
        beyond x y a b (charred ss (x - a - b) q) (charred ss (y - a - b) q) more (omega arith) (later (omega arith) (omega arith))

module _ (p : Panel) (n m q : ℕ) (rate : 0 < rate_of p) (past : q * failure_of p ≤ 1000 * n) (more : n < m) where
  -- short of the back face, the char depth rises
  char_rises : char_at p n q < 2 * q * back_face p → char_at p n q < char_at p m q
  char_rises short = go (dec_lt (char_at p m q) (2 * q * back_face p))
    where
      x : ℕ
      x = 2 * plain_rate p * (1000 * n - q * failure_of p)

      after_rises : after_at p n q < after_at p m q
      after_rises =
          charred_rises (way p) x (2 * plain_rate p * (1000 * m - q * failure_of p)) q (way_not_over p n q short past)
          (mul-lt-mul_of_pos_left (let h : 1000 * n - q * failure_of p < 1000 * m - q * failure_of p = omega arith in h)
          (let h : 0 < 2 * plain_rate p = omega arith in h))

      go : Dec (char_at p m q < 2 * q * back_face p) → char_at p n q < char_at p m q
      go (no h) = omega arith
      go (yes h) =
          let late : q * failure_of p ≤ 1000 * m = omega arith in
          numbers (char_at p n q) (under_at p n q) (after_at p n q) (char_at p m q) (under_at p m q) (after_at p m q) (2 * q * depth_at_failure p)
          (char_parts p n q short) (char_parts p m q h) (under_full p n q past) (under_full p m q late) after_rises
        where
          numbers : (c u a c₁ u₁ a₁ d : ℕ) → c ≡ u + a → c₁ ≡ u₁ + a₁ → u ≡ d → u₁ ≡ d → a < a₁ → c < c₁
          numbers c u a c₁ u₁ a₁ d e e₁ f f₁ h = omega arith

  -- and so does the effective depth
  effective_rises : effective_at p n q < 2 * q * full_at p * back_face p → effective_at p n q < effective_at p m q
  unfolding effective_at
  effective_rises short =
      numbers (full_at p * char_at p n q) (full_at p * char_at p m q) (140 * tenth * min (1000 * n) (q * full_at p))
      (140 * tenth * min (1000 * m) (q * full_at p)) (2 * q * full_at p * back_face p)
      (mul-lt-mul_of_pos_left (char_rises (before (full_at p) (char_at p n q) q (back_face p) (effective_at p n q) (char_effective p n q) short))
      (full_positive p))
      (omega arith) short
    where
      before : (f c q b e : ℕ) → f * c ≤ e → e < 2 * q * f * b → c < 2 * q * b
      before f c q b e h k = lt_of_mul-lt-mul_left f (let l : f * c < f * (2 * q * b) = omega arith in l)

      numbers : (c c₁ k k₁ b : ℕ) → c < c₁ → k ≤ k₁ → min (c + k) b < b → min (c + k) b < min (c₁ + k₁) b
      numbers c c₁ k k₁ b h l s = omega arith

-- at two times n/q and r/s
effective_more :
    (p : Panel) (n q r s : ℕ) → 0 < s → 0 < rate_of p → q * failure_of p ≤ 1000 * n → n * s < r * q
    → effective_at p n q < 2 * q * full_at p * back_face p → effective_at p n q * s < effective_at p r s * q
effective_more p n q r s pos rate past later short =
    let e : effective_at p (s * n) (s * q) ≡ s * effective_at p n q = (effective_ramp p).scaled s n q in
    let f : effective_at p (q * r) (s * q) ≡ q * effective_at p r s =
    ap (effective_at p (q * r)) (mul_comm s q) ∙ (effective_ramp p).scaled q r s in
    turned (effective_at p (s * n) (s * q)) (effective_at p n q) (effective_at p (q * r) (s * q)) (effective_at p r s) e f
    (effective_rises p (s * n) (q * r) (s * q) rate (late (failure_of p) past) (omega arith)
    (below (effective_at p (s * n) (s * q)) (effective_at p n q) (full_at p) (back_face p) e short))
  where
    late : (f : ℕ) → q * f ≤ 1000 * n → s * q * f ≤ 1000 * (s * n)
    late f h = omega (arith, mul-le-mul_left s h)

    below : (a c f b : ℕ) → a ≡ s * c → c < 2 * q * f * b → a < 2 * (s * q) * f * b
    below a c f b e h =
        let l : s * c < s * (2 * q * f * b) = mul-lt-mul_of_pos_left h pos in
        omega arith

    turned : (a c a₁ c₁ : ℕ) → a ≡ s * c → a₁ ≡ q * c₁ → a < a₁ → c * s < c₁ * q
    turned a c a₁ c₁ e f h = omega arith

-- right after a time at which the effective depth is k tenths, it is more
pub tenths_rise :
    (p : Panel) (n q r s k : ℕ) → 0 < q → 0 < s → 0 < rate_of p → q * failure_of p ≤ 1000 * n → n * s < r * q
    → k < thickness (lamellae p) → effective_at p n q ≡ k * (2 * tenth * (q * full_at p)) → suc k ≤ tenths_at p r s
tenths_rise p n q r s k pos pos₁ rate past later short exact =
    let unit : ℕ = 2 * tenth * (s * full_at p) in
    let more : effective_at p n q * s < effective_at p r s * q =
    effective_more p n q r s pos₁ rate past later
    (below (effective_at p n q) (full_at p) (thickness (lamellae p)) (mul-pos pos (full_positive p)) short exact) in
    lt_of_mul-lt-mul_right unit
    (lt_of_lt_of_le
    (lt_of_mul-lt-mul_right q (by_unit (effective_at p n q) (effective_at p r s) (full_at p) exact more))
    (up_covers (effective_at p r s) unit (unit_positive p s pos₁)))
  where
    below : (c f t : ℕ) → 0 < q * f → k < t → c ≡ k * (2 * tenth * (q * f)) → c < 2 * q * f * (tenth * t)
    below c f t h l e =
        let z : q * f * k < q * f * t = mul-lt-mul_of_pos_left l h in
        omega arith

    by_unit : (c d f : ℕ) → c ≡ k * (2 * tenth * (q * f)) → c * s < d * q → k * (2 * tenth * (s * f)) * q < d * q
    by_unit c d f e h =
        let z : c * s ≡ k * (2 * tenth * (q * f)) * s = ap (λ (x : ℕ). x * s) e in
        omega arith

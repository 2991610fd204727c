-- What has charred before t_ch, up to t_f and in a step after it, and that a panel is untouched before t_ch.
use Prim.Native.Nat.{ℕ, zero, suc, ◌+◌, ◌-◌, ◌*◌, ◌≤◌, ◌<◌, min}
use mathlib.Core.Path.{◌≡◌, ap}
use native.Mathlib.Omega.{arith}
use native.Mathlib.Nat.{le_trans, mul-sub, mul-add, mul-le-mul_left, mul-pos}
use Rattle.panel.specs.declared.Panel.{Panel}
use Rattle.panel.specs.Lamellae.{lamellae, thickness}
use Rattle.phases.specs.declared.Phase.{Phase}
use Rattle.phases.specs.declared.Phase.TheVariants.{Untouched}
use Rattle.charring.specs.Rates.{start_of, failure_of, plain_rate, slow_rate, back_face, depth_at_failure}
use Rattle.charring.specs.Way.{way}
use Rattle.charring.specs.Depths.{under_at, after_at, char_at}
use Rattle.phases.specs.Phases.{phase_at}
use Rattle.phases.proofs.PhaseCases.{at_untouched}
use Rattle.charring.proofs.WayLaws.{charred_none}
use Rattle.charring.proofs.DepthParts.{char_parts, under_full}

-- before t_f nothing has gone on after it
after_none : (p : Panel) (n q : ℕ) → 1000 * n ≤ q * failure_of p → after_at p n q ≡ 0
after_none p n q h =
    let e : 1000 * n - q * failure_of p ≡ 0 = none (1000 * n) (q * failure_of p) h in
    let z : 2 * plain_rate p * 0 ≡ 0 = omega arith in
    rw (e, z) (charred_none (way p) q)
  where
    none : (a b : ℕ) → a ≤ b → a - b ≡ 0
    none a b h = omega arith

-- nor before t_ch
under_none : (p : Panel) (n q : ℕ) → 1000 * n ≤ q * start_of p → under_at p n q ≡ 0
under_none p n q h =
    let e : min (1000 * n - q * start_of p) (q * (failure_of p - start_of p)) ≡ 0 =
    none (1000 * n) (q * start_of p) (q * (failure_of p - start_of p)) h in
    rw e (omega arith)
  where
    none : (a b c : ℕ) → a ≤ b → min (a - b) c ≡ 0
    none a b c h = omega arith

-- from t_ch to t_f
pub under_part : (p : Panel) (n q : ℕ) → q * start_of p ≤ 1000 * n → 1000 * n ≤ q * failure_of p
    → under_at p n q ≡ 2 * slow_rate p * (1000 * n - q * start_of p)
under_part p n q h k =
    let e : min (1000 * n - q * start_of p) (q * (failure_of p - start_of p)) ≡ 1000 * n - q * start_of p =
    rw (mul-sub q (failure_of p) (start_of p)) (numbers (1000 * n) (q * start_of p) (q * failure_of p) k) in
    rw e
  where
    numbers : (a b c : ℕ) → a ≤ c → min (a - b) (c - b) ≡ a - b
    numbers a b c h = omega arith

-- up to t_f the depth is what has charred under the boards
pub char_until_failure : (p : Panel) (n q : ℕ) → 1000 * n ≤ q * failure_of p → char_at p n q ≡ min (under_at p n q) (2 * q * back_face p)
unfolding char_at
char_until_failure p n q h =
    ap (λ (a : ℕ). min a (2 * q * back_face p)) (sum (under_at p n q) (after_at p n q) (after_none p n q h))
  where
    sum : (a b : ℕ) → b ≡ 0 → a + b ≡ a
    sum a b e = omega arith

-- "Before t_ch no charring."
pub no_char : (p : Panel) (n q : ℕ) → start_of p ≤ failure_of p → 1000 * n ≤ q * start_of p → char_at p n q ≡ 0
no_char p n q order h =
    let later : q * start_of p ≤ q * failure_of p = mul-le-mul_left q order in
    omega (arith, char_until_failure p n q (le_trans h later), under_none p n q h)

-- and a panel with any thickness is untouched before t_ch
pub untouched_before :
    (p : Panel) (n q : ℕ) → start_of p ≤ failure_of p → 0 < thickness (lamellae p) → 1000 * n < q * start_of p
    → phase_at p n q ≡ Untouched
untouched_before p n q order thick h =
    at_untouched p n q
    (numbers (char_at p n q) q (thickness (lamellae p)) (no_char p n q order (let l : 1000 * n ≤ q * start_of p = omega arith in l))
    (mul-pos (positive q (start_of p) (1000 * n) h) thick))
    h
  where
    positive : (q a b : ℕ) → b < q * a → 0 < q
    positive zero a b h = omega arith
    positive (suc q) a b h = omega arith

    numbers : (c q t : ℕ) → c ≡ 0 → 0 < q * t → c < 2 * q * (100000000 * t)
    numbers c q t h k = omega arith

-- in one phase from n/q up to m/q, at every time between
abbrev pub Throughout : Panel → Phase → ℕ → ℕ → ℕ → Type 0
Throughout p f n m q = (r s : ℕ) → 0 < s → n * s ≤ r * q → r * q ≤ m * s → phase_at p r s ≡ f

-- x at two times
pub base_rises : (p : Panel) (n m q : ℕ) → n ≤ m → 2 * plain_rate p * (1000 * n - q * failure_of p) ≤ 2 * plain_rate p * (1000 * m - q * failure_of p)
base_rises p n m q h =
    mul-le-mul_left (2 * plain_rate p) (let k : 1000 * n - q * failure_of p ≤ 1000 * m - q * failure_of p = omega arith in k)

-- what a step takes of the way
pub base_step : (p : Panel) (n m q : ℕ) → n ≤ m → q * failure_of p ≤ 1000 * n
    → 2 * plain_rate p * (1000 * m - q * failure_of p) - 2 * plain_rate p * (1000 * n - q * failure_of p) ≡ 2000 * plain_rate p * (m - n)
base_step p n m q le past = difference (plain_rate p) (1000 * n) (1000 * m) (q * failure_of p) (m - n) past (omega arith)
  where
    difference : (r N M G d : ℕ) → G ≤ N → M ≡ N + 1000 * d → 2 * r * (M - G) - 2 * r * (N - G) ≡ 2000 * r * d
    difference r N M G d h k =
        let e : M - G ≡ N - G + 1000 * d = omega arith in
        rw (e, mul-add (2 * r) (N - G) (1000 * d)) (omega arith)

-- a step on the way, past the back face too
pub way_step :
    (p : Panel) (c k n m q : ℕ) → c * 2000 ≡ k → n ≤ m → q * failure_of p ≤ 1000 * n → char_at p n q < 2 * q * back_face p
    → after_at p m q
    ≡ after_at p n q + c * (2 * plain_rate p * (1000 * m - q * failure_of p) - 2 * plain_rate p * (1000 * n - q * failure_of p))
    → under_at p m q + after_at p m q ≡ char_at p n q + k * plain_rate p * (m - n)
way_step p c k n m q times le past short step =
    numbers (char_at p n q) (under_at p m q) (under_at p n q) (2 * q * depth_at_failure p) (after_at p m q) (after_at p n q) c k
    (plain_rate p) (m - n) times (char_parts p n q short)
    (under_full p m q (let late : q * failure_of p ≤ 1000 * m = omega arith in late)) (under_full p n q past)
    (rw (base_step p n m q le past) at step)
  where
    numbers :
        (c₀ u₁ u₀ u a₁ a₀ c k r d : ℕ) → c * 2000 ≡ k → c₀ ≡ u₀ + a₀ → u₁ ≡ u → u₀ ≡ u → a₁ ≡ a₀ + c * (2000 * r * d)
        → u₁ + a₁ ≡ c₀ + k * r * d
    numbers c₀ u₁ u₀ u a₁ a₀ c k r d times f g h l =
        let z : c * 2000 * r * d ≡ k * r * d = ap (λ (i : ℕ). i * r * d) times in
        omega arith

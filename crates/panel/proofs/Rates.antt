-- The charring rate. Of an LVL panel thinner than 20.0 mm: a greater rate keeps the rule too, and the least that keeps it lies between 65 and
-- 100. Of any panel: turning and unused places do not matter, and line 4's limits are kept.
use Prim.Native.Nat.{ℕ, ◌*◌, ◌≤◌, ◌<◌}
use mathlib.Core.Path.{◌≡◌, refl, ap, ◌∙◌}
use mathlib.Core.List.{List}
use mathlib.Core.Bool.{Bool, true, false, ◌&&◌}
use native.Mathlib.Omega.{arith}
use native.Mathlib.Nat.{mul-le-mul_right, le_antisymm}
use native.Mathlib.Decide.{dec_lt}
use borrow.Author.Tests.{leb-true, ltb-true, le-leb, lt-leb}
use Rattle.numbers.specs.Choice.{pick}
use Rattle.numbers.proofs.Booleans.{and_right, not_both}
use Rattle.numbers.proofs.LeastKept.{least_most, least_keeps, least_before}
use Rattle.numbers.proofs.Products.{times, square_rises}
use Rattle.panel.specs.declared.Panel.{Panel}
use Rattle.panel.specs.declared.Product.{Product}
use Rattle.panel.specs.Lamellae.{Lamella, lamellae, cleared, thickness}
use Rattle.panel.specs.Faces.{turned}
use Rattle.panel.specs.Products.{product_of, is_lvl, thin, thin_keeps, thin_rate, rate_by, rate_of, IsThinRate}
use Rattle.panel.proofs.Used.{lamellae_cleared}
use Rattle.panel.proofs.Turning.{turned_lamellae, thickness_reverse}

-- a greater rate keeps the rule too
pub thin_up : (h m n : ℕ) → m ≤ n → thin_keeps h m ≡ true → thin_keeps h n ≡ true
thin_up h m n l k =
    le-leb (65 * 65 * 200) (n * n * h)
    (omega (arith, leb-true (65 * 65 * 200) (m * m * h) k, mul-le-mul_right h (square_rises m n l)))

-- no rate does with nothing
pub thin_zero : (h : ℕ) → thin_keeps h 0 ≡ false
thin_zero h = lt-leb (65 * 65 * 200) (0 * 0 * h) (omega arith)

-- of panels of at least 10.0 mm 99 keeps it
kept_by_99 : (h : ℕ) → 100 ≤ h → thin_keeps h 99 ≡ true
kept_by_99 h l = le-leb (65 * 65 * 200) (99 * 99 * h) (omega arith)

below_bound : (h : ℕ) → 100 ≤ h → thin_rate h < 100
unfolding thin_rate
below_bound h l = go (dec_lt 99 (thin_rate h))
  where
    go : Dec (99 < thin_rate h) → thin_rate h < 100
    go (yes k) = absurd (not_both _ (kept_by_99 h l) (least_before (thin_keeps h) 100 99 k))
    go (no k) = omega arith

no_lesser : (h m : ℕ) → 65 * 65 * 200 ≤ m * m * h → thin_rate h ≤ m
unfolding thin_rate
no_lesser h m k = go (dec_lt m (thin_rate h))
  where
    go : Dec (m < thin_rate h) → thin_rate h ≤ m
    go (yes l) =
        absurd (not_both _ (le-leb (65 * 65 * 200) (m * m * h) k) (least_before (thin_keeps h) 100 m l))
    go (no l) = omega arith

-- THE RATE OF A THIN PANEL is "the least whole n hundredths of mm/min with n²·h ≥ 65²·200"
pub thin_is : (h : ℕ) → 100 ≤ h → IsThinRate h (thin_rate h)
unfolding thin_rate
thin_is h l =
    record {
      enough = leb-true (65 * 65 * 200) _ (least_keeps (thin_keeps h) 100 (below_bound h l));
      least = no_lesser h;
    }

-- there is one such rate
pub thin_one : (h n m : ℕ) → IsThinRate h n → IsThinRate h m → n ≡ m
thin_one h n m a b = le_antisymm (a.least m b.enough) (b.least n a.enough)

-- and it lies within line 4's limits
pub thin_most : (h : ℕ) → thin_rate h ≤ 100
unfolding thin_rate
thin_most h = least_most (thin_keeps h) 100

pub thin_least : (h : ℕ) → h < 200 → 65 ≤ thin_rate h
unfolding thin_rate
thin_least h l = go (dec_lt (thin_rate h) 65)
  where
    go : Dec (thin_rate h < 65) → 65 ≤ thin_rate h
    go (yes k) =
        let kept = leb-true (65 * 65 * 200) _ (least_keeps (thin_keeps h) 100 (omega arith)) in
        let square = square_rises (thin_rate h) 64 (omega arith) in
        absurd (let z : ⊥ = omega (arith, kept, times (thin_rate h * thin_rate h) 4096 h 199 square (omega arith)) in z)
    go (no k) = omega arith

-- Of any panel

pub rate_cleared : (p : Panel) → rate_of (cleared p) ≡ rate_of p
rate_cleared p = ap (λ (ls : List Lamella). rate_by (product_of p.bond) p.rate (thickness ls)) (lamellae_cleared p)

-- in either fire alike
pub rate_turned : (p : Panel) → rate_of (turned p) ≡ rate_of p
rate_turned p = ap (rate_by (product_of p.bond) p.rate) (ap thickness (turned_lamellae p) ∙ thickness_reverse (lamellae p))

-- line 4's limits of the record's rate are limits of the rate that a panel chars at
pub rate_within : (product : Product) (rate h : ℕ) → 50 ≤ rate → rate ≤ 100 → (50 ≤ rate_by product rate h) × (rate_by product rate h ≤ 100)
unfolding rate_by
rate_within product rate h a b = go (is_lvl product && thin h) refl
  where
    go : (t : Bool) → (is_lvl product && thin h) ≡ t → (50 ≤ pick t (thin_rate h) rate) × (pick t (thin_rate h) rate ≤ 100)
    go true e = (omega (arith, thin_least h (ltb-true h 200 (and_right (is_lvl product) (thin h) e))), thin_most h)
    go false e = (a, b)

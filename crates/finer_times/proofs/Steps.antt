-- One layer in c times as many parts of a minute: where the finer sum before it is no less than c times the coarse one, the sum with it is no
-- less either.
-- The coarse basic time is the finer one rounded down. Were it only at most that, the law would be false: where t grows past 2S, and the layer
-- time goes over from the largest n with 4·n²·S ≤ t³ to t − 0.6·S, it falls.
use Prim.Native.Nat.{ℕ, ◌+◌, ◌-◌, ◌*◌, ◌/◌, ◌<◌, ◌≤◌}
use mathlib.Core.Path.{◌≡◌, sym, subst}
use native.Mathlib.Omega.{arith}
use native.Mathlib.Decide.{dec_lt}
use native.Mathlib.Nat.{mul-le-mul_left, mul-le-mul_right}
use borrow.Author.Tests.{le-leb, leb-true}
use Rattle.numbers.proofs.Products.{cube_rises}
use Rattle.panel.specs.Boards.{whole_joint}
use Rattle.layers.specs.Layers.{late_keeps, positioned, layer_time}
use Rattle.layers.proofs.LateTimes.{early_floor, late_largest, late_within}
use Rattle.numbers.proofs.LargestKept.{no_less}
use Rattle.finer_times.proofs.RoundedDown.{RoundedDown}

-- In numbers: n and m are layer times, s is the sum before them and t a basic time. What is in finer parts has a prime

-- what a layer time keeps, 5n + 3S ≤ 5t or 4·n²·S ≤ t³, it keeps in c times as many parts
early_scaled : (c n s t t' : ℕ) → 5 * n + 3 * s ≤ 5 * t → c * t ≤ t' → 5 * (c * n) + 3 * (c * s) ≤ 5 * t'
early_scaled c n s t t' h k = omega (arith, mul-le-mul_left c h, k)

late_scaled : (c n s t t' : ℕ) → 4 * n * n * s ≤ t * t * t → c * t ≤ t' → 4 * (c * n) * (c * n) * (c * s) ≤ t' * t' * t'
late_scaled c n s t t' h k = omega (arith, mul-le-mul_left (c * c * c) h, cube_rises (c * t) t' k)

-- after a sum that is greater by d, a layer time that is smaller by d may be given, as m²·d ≤ 2·m·d·S
late_later : (m d s t : ℕ) → m ≤ 2 * s → 4 * (m + d) * (m + d) * s ≤ t * t * t → 4 * m * m * (s + d) ≤ t * t * t
late_later m d s t h k = omega (arith, mul-le-mul_left (m * d) h, k)

-- so may one whose sum with S is at most 1.2·t, as n + S is where n = t − 0.6·S and 2S ≤ t. With q = 7t − 10m this leaves 70S ≤ 50m + 12q, and
-- then 3430·4·m²·S ≤ 9800m³ + 2352m²q, which is at most 10·(10m + q)³
late_after_early : (m s t : ℕ) → 5 * m + 5 * s ≤ 6 * t → t < 2 * s → 4 * m * m * s ≤ t * t * t
late_after_early m s t h k = sevenths m (7 * t - 10 * m) s t (omega arith) (omega arith)
  where
    sevenths : (m q s t : ℕ) → 7 * t ≡ 10 * m + q → 70 * s ≤ 50 * m + 12 * q → 4 * m * m * s ≤ t * t * t
    sevenths m q s t e h =
        let cube : (10 * m + q) * (10 * m + q) * (10 * m + q) ≤ (7 * t) * (7 * t) * (7 * t) = cube_rises (10 * m + q) (7 * t) (omega arith) in
        omega (arith, cube, mul-le-mul_left (m * m) h)

-- The layer time before its joint coefficient

-- it reaches a number but for d where what is left of the number without d may be given
late_reaches : (s t a d : ℕ) → t < 2 * s → ((m : ℕ) → m + d ≡ a → 4 * m * m * s ≤ t * t * t) → a ≤ positioned s t + d
late_reaches s t a d late keeps = go (dec_lt d a)
  where
    go : Dec (d < a) → a ≤ positioned s t + d
    go (no k) = omega arith
    go (yes k) =
        let kept = le-leb (4 * (a - d) * (a - d) * s) (t * t * t) (keeps (a - d) (omega arith)) in
        omega (arith, no_less (late_keeps s t) (positioned s t) (a - d) (late_largest s t late) kept)

-- in finer parts it falls short by no more than the sum before it is ahead
position_step : (c s t d t' : ℕ) → RoundedDown c t t' → c * positioned s t ≤ positioned (c * s + d) t' + d
position_step c s t d t' r = go (dec_lt t (2 * s)) (dec_lt t' (2 * (c * s + d)))
  where
    n : ℕ
    n = positioned s t

    scaled : 2 * s ≤ t → 5 * (c * n) + 3 * (c * s) ≤ 5 * t'
    scaled early = early_scaled c n s t t' (early_floor s t early).0 r.least

    earlier : (m : ℕ) → 2 * s ≤ t → m + d ≡ c * n → 5 * m + 5 * (c * s + d) ≤ 6 * t'
    earlier m early e = omega (arith, scaled early, mul-le-mul_left c early, r.least)

    go : Dec (t < 2 * s) → Dec (t' < 2 * (c * s + d)) → c * n ≤ positioned (c * s + d) t' + d
    -- 2S ≤ t in the coarse parts and in the finer ones
    go (no late) (no late') =
        let k = early_floor (c * s + d) t' (omega arith) in
        omega (arith, scaled (omega arith), k.1)
    -- in the coarse ones alone
    go (no late) (yes late') =
        late_reaches (c * s + d) t' (c * n) d late'
        (λ m e. late_after_early m (c * s + d) t' (earlier m (omega arith) e) late')
    -- in the finer ones alone it cannot be: t + 1 ≤ 2S
    go (yes late) (no late') =
        let k : t + 1 ≤ 2 * s = omega arith in
        absurd (let z : ⊥ = omega (arith, mul-le-mul_left c k, r.below, late') in z)
    -- in neither
    go (yes late) (yes late') =
        let l : n ≤ 2 * s = omega (arith, late_within s t late) in
        let kept = leb-true (4 * n * n * s) (t * t * t) (late_largest s t late).kept in
        late_reaches (c * s + d) t' (c * n) d late'
        (λ m e.
        late_later m d (c * s) t' (omega (arith, e, mul-le-mul_left c l))
        (subst (λ (a : ℕ). 4 * a * a * (c * s) ≤ t' * t' * t') (sym e) (late_scaled c n s t t' kept r.least)))

-- and so does the layer time
joint_step : (c n m d joint : ℕ) → joint ≤ whole_joint → c * n ≤ m + d → c * (n * joint / whole_joint) ≤ m * joint / whole_joint + d
joint_step c n m d joint whole h = numbers (n * joint / whole_joint) (omega arith)
  where
    numbers : (l : ℕ) → whole_joint * l ≤ n * joint → c * l ≤ m * joint / whole_joint + d
    numbers l floor = omega (arith, mul-le-mul_left c floor, mul-le-mul_right joint h, mul-le-mul_left d whole)

-- THE STEP: a sum that is no less in finer parts is no less with one layer more
pub layer_step :
    (c s t s' t' joint : ℕ) → c * s ≤ s' → RoundedDown c t t' → joint ≤ whole_joint
    → c * (s + layer_time s t joint) ≤ s' + layer_time s' t' joint
layer_step c s t s' t' joint h r whole = numbers (layer_time s t joint) (layer_time s' t' joint) (subst Ahead (omega arith) step)
  where
    d : ℕ
    d = s' - c * s

    Ahead : ℕ → Type 0
    Ahead x = c * layer_time s t joint ≤ layer_time x t' joint + d

    step : Ahead (c * s + d)
    step = joint_step c (positioned s t) (positioned (c * s + d) t') d joint whole (position_step c s t d t' r)

    numbers : (l m : ℕ) → c * l ≤ m + d → c * (s + l) ≤ s' + m
    numbers l m k = omega arith

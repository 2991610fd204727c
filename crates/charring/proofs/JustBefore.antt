-- Just before a time, the effective depth has the same tenth: so a depth that is passed at a time is reached earlier.
use Prim.Native.Nat.{ℕ, suc, ◌+◌, ◌*◌, ◌≤◌, ◌<◌}
use mathlib.Core.Path.{◌≡◌}
use native.Mathlib.Omega.{arith}
use native.Mathlib.Nat.{mul-pos, lt_of_mul-lt-mul_left}
use Rattle.panel.specs.declared.Panel.{Panel}
use Rattle.charring.specs.Rates.{tenth}
use Rattle.charring.specs.Depths.{round_up, full_at, effective_at, tenths_at}
use Rattle.charring.proofs.Ramps.{Ramp}
use Rattle.charring.proofs.Rounding.{up_covers, up_least}
use Rattle.charring.proofs.DepthLaws.{effective_speed, effective_ramp, unit_positive}

-- the numbers of it: what is at most k whole units and less than one more is at most k units
within : (c a u m : ℕ) → suc c * a ≤ m + c → m ≤ suc c * u → a ≤ u
within c a u m h k =
    let l : a < suc u = lt_of_mul-lt-mul_left (suc c) (let z : suc c * a < suc c * suc u = omega arith in z) in
    omega arith

-- for any quantity that rises by at most c: 1/(c+1) of 1/q before suc n/q it rounds up as high
pub ramp_before :
    (f : ℕ → ℕ → ℕ) (c : ℕ) → Ramp f c → (n q d : ℕ) → 0 < d
    → round_up (f (suc n) q) d ≤ round_up (f (suc c * n + c) (suc c * q)) (suc c * d)
ramp_before f c r n q d h =
    let m : ℕ = f (suc c * n + c) (suc c * q) in
    let up : ℕ = round_up m (suc c * d) in
    let near : f (suc c * suc n) (suc c * q) ≤ m + c * 1 = r.slow (suc c * n + c) (suc c * suc n) 1 (suc c * q) (omega arith) in
    let wide : 0 < suc c * d = mul-pos (let z : 0 < suc c = omega arith in z) h in
    let covered : m ≤ up * (suc c * d) = up_covers m (suc c * d) wide in
    up_least (f (suc n) q) d up h
    (within c (f (suc n) q) (up * d) m (exact (suc c) c (f (suc n) q) (f (suc c * suc n) (suc c * q)) m (r.scaled (suc c) (suc n) q) near)
    (turned m up (suc c) d covered))
  where
    exact : (k c a b m : ℕ) → b ≡ k * a → b ≤ m + c * 1 → k * a ≤ m + c
    exact k c a b m e h = omega arith

    turned : (m u k d : ℕ) → m ≤ u * (k * d) → m ≤ k * (u * d)
    turned m u k d h = omega arith

-- with c the speed of the effective depth, 1/((c+1)·q) before suc n/q it has the same tenth
pub just_before : (p : Panel) (n q : ℕ) → 0 < q
    → tenths_at p (suc n) q ≤ tenths_at p (suc (effective_speed p) * n + effective_speed p) (suc (effective_speed p) * q)
just_before p n q h =
    let c : ℕ = effective_speed p in
    let e : suc c * (2 * tenth * (q * full_at p)) ≡ 2 * tenth * (suc c * q * full_at p) = unit (suc c) q (full_at p) in
    rw e at (ramp_before (effective_at p) c (effective_ramp p) n q (2 * tenth * (q * full_at p)) (unit_positive p q h))
  where
    unit : (k q f : ℕ) → k * (2 * tenth * (q * f)) ≡ 2 * tenth * (k * q * f)
    unit k q f = omega arith

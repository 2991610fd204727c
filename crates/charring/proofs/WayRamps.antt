-- How deep the char comes on a way, whatever its stretches: it rises with what β alone would add, and at most twice as fast.
use Prim.Native.Nat.{ℕ, ◌+◌, ◌-◌, ◌*◌, ◌≤◌, min}
use mathlib.Core.Path.{◌≡◌}
use mathlib.Core.List.{List, [], ◌∷◌}
use native.Mathlib.Omega.{arith}
use native.Mathlib.Nat.{mul-sub, mul-le-mul_left}
use Rattle.charring.specs.Way.{Stretch, charred, fast_part, settled_part}
use Rattle.charring.proofs.Ramps.{Ramp, same, weaker, steady}
use Rattle.numbers.proofs.Products.{mul_min, two_rates}

-- a rise that takes b of x and deepens by `rate` for each of it, then g
unfoldable pub rise : (rate b : ℕ) (g : ℕ → ℕ → ℕ) → ℕ → ℕ → ℕ
rise rate b g x q = rate * min x (q * b) + g (x - q * b) q

-- a step of d is shared between what lies before b and what lies past it
pub shared : (n m d b : ℕ) → m ≤ n + d → min m b - min n b + (m - b - (n - b)) ≤ d
shared n m d b h = omega arith

-- a rise no faster than what follows it
pub rise_ramp : (rate b c : ℕ) (g : ℕ → ℕ → ℕ) → rate ≤ c → Ramp g c → Ramp (rise rate b g) c
unfolding rise
rise_ramp rate b c g l r =
    record {
      scaled = λ k n q.
          let e : k * q * b ≡ k * (q * b) = omega arith in
          rw (e, ← mul_min k n (q * b), ← mul-sub k n (q * b), r.scaled k (n - q * b) q) (omega arith);
      rises = λ n m q h.
          let before : rate * min n (q * b) ≤ rate * min m (q * b) = mul-le-mul_left rate
          (let z : min n (q * b) ≤ min m (q * b) = omega arith in z) in
          omega (arith, r.rises (n - q * b) (m - q * b) q (omega arith));
      slow = λ n m d q h.
          let a : ℕ = min m (q * b) - min n (q * b) in
          let e : ℕ = m - q * b - (n - q * b) in
          let before : rate * min m (q * b) ≤ rate * (min n (q * b) + a) = mul-le-mul_left rate
          (let z : min m (q * b) ≤ min n (q * b) + a = omega arith in z) in
          let past : g (m - q * b) q ≤ g (n - q * b) q + c * e = r.slow (n - q * b) (m - q * b) e q (omega arith) in
          let both : rate * a + c * e ≤ c * d = two_rates rate c a e d l (shared n m d (q * b) h) in
          joined rate c (min m (q * b)) (min n (q * b)) a (g (m - q * b) q) (g (n - q * b) q) e d before past both;
    }
  where
    joined :
        (r c A B a G H e d : ℕ) → r * A ≤ r * (B + a) → G ≤ H + c * e → r * a + c * e ≤ c * d → r * A + G ≤ r * B + H + c * d
    joined r c A B a G H e d h k l = omega arith

-- a stretch is two stages, and then the rest of the way
pub charred_rises : (s : Stretch) (ss : List Stretch) (x q : ℕ)
    → charred (s ∷ ss) x q ≡ rise 2 (fast_part s) (rise 1 (2 * settled_part s) (charred ss)) x q
unfolding rise charred
charred_rises s ss x q =
    let e : q * (2 * settled_part s) ≡ 2 * q * settled_part s = omega arith in
    rw e (omega arith)

-- the depth on a way
pub charred_ramp : (ss : List Stretch) → Ramp (charred ss) 2
unfolding charred
charred_ramp [] = same (λ (n q : ℕ). q * 0) (charred []) 2 (λ n q. omega arith) (weaker (λ (n q : ℕ). q * 0) 0 2 (omega arith) (steady 0))
charred_ramp (s ∷ ss) =
    same (rise 2 (fast_part s) (rise 1 (2 * settled_part s) (charred ss))) (charred (s ∷ ss)) 2 (charred_rises s ss)
    (rise_ramp 2 (fast_part s) 2 (rise 1 (2 * settled_part s) (charred ss)) (omega arith)
    (rise_ramp 1 (2 * settled_part s) 2 (charred ss) (omega arith) (charred_ramp ss)))

-- Quantities at a time n/q that rise with time, and no faster than c, and how they are put together.
use Prim.Native.Nat.{ℕ, ◌+◌, ◌-◌, ◌*◌, ◌≤◌, min}
use mathlib.Core.Path.{◌≡◌, sym, ap, ◌∙◌}
use native.Mathlib.Omega.{arith}
use native.Mathlib.Nat.{mul-sub, mul_comm, mul-le-mul_left, mul-le-mul_right}
use Rattle.numbers.proofs.Products.{mul_min}

-- f n q is a quantity at n/q, times q: it depends on the fraction alone, never falls, and rises by at most c for each 1/q
pub record Ramp (f : ℕ → ℕ → ℕ) (c : ℕ) : Type 0 where
  pub scaled : (k n q : ℕ) → f (k * n) (k * q) ≡ k * f n q
  pub rises : (n m q : ℕ) → n ≤ m → f n q ≤ f m q
  pub slow : (n m d q : ℕ) → m ≤ n + d → f m q ≤ f n q + c * d

-- a quantity that is the same at every time
pub same : (f g : ℕ → ℕ → ℕ) (c : ℕ) → ((n q : ℕ) → g n q ≡ f n q) → Ramp f c → Ramp g c
same f g c e r =
    record {
      scaled = λ k n q. e (k * n) (k * q) ∙ r.scaled k n q ∙ ap (λ (x : ℕ). k * x) (sym (e n q));
      rises = λ n m q h. omega (arith, e n q, e m q, r.rises n m q h);
      slow = λ n m d q h. omega (arith, e n q, e m q, r.slow n m d q h);
    }

-- a higher bound on the rate
pub weaker : (f : ℕ → ℕ → ℕ) (c d : ℕ) → c ≤ d → Ramp f c → Ramp f d
weaker f c d l r =
    record {
      scaled = r.scaled;
      rises = r.rises;
      slow = λ n m e q h. omega (arith, r.slow n m e q h, mul-le-mul_right e l);
    }

-- c times the time
pub times : (c : ℕ) → Ramp (λ (n q : ℕ). c * n) c
times c =
    record {
      scaled = λ k n q. omega arith;
      rises = λ n m q h. mul-le-mul_left c h;
      slow = λ n m d q h.
          let l : c * m ≤ c * (n + d) = mul-le-mul_left c h in
          omega arith;
    }

-- the same number b at all times
pub steady : (b : ℕ) → Ramp (λ (n q : ℕ). q * b) 0
steady b =
    record { scaled = λ k n q. omega arith; rises = λ n m q h. omega arith; slow = λ n m d q h. omega arith }

pub sum : (f g : ℕ → ℕ → ℕ) (c d : ℕ) → Ramp f c → Ramp g d → Ramp (λ (n q : ℕ). f n q + g n q) (c + d)
sum f g c d r s =
    record {
      scaled = λ k n q. omega (arith, r.scaled k n q, s.scaled k n q);
      rises = λ n m q h. omega (arith, r.rises n m q h, s.rises n m q h);
      slow = λ n m e q h. omega (arith, r.slow n m e q h, s.slow n m e q h);
    }

-- b times a quantity
pub multiple : (b : ℕ) (f : ℕ → ℕ → ℕ) (c : ℕ) → Ramp f c → Ramp (λ (n q : ℕ). b * f n q) (b * c)
multiple b f c r =
    record {
      scaled = λ k n q. ap (λ (x : ℕ). b * x) (r.scaled k n q) ∙ (omega arith);
      rises = λ n m q h. mul-le-mul_left b (r.rises n m q h);
      slow = λ n m d q h.
          let l : b * f m q ≤ b * (f n q + c * d) = mul-le-mul_left b (r.slow n m d q h) in
          omega arith;
    }

-- the lower of two quantities
pub lower : (f g : ℕ → ℕ → ℕ) (c d : ℕ) → d ≤ c → Ramp f c → Ramp g d → Ramp (λ (n q : ℕ). min (f n q) (g n q)) c
lower f g c d l r s =
    record {
      scaled = λ k n q. omega (arith, r.scaled k n q, s.scaled k n q, mul_min k (f n q) (g n q));
      rises = λ n m q h. omega (arith, r.rises n m q h, s.rises n m q h);
      slow = λ n m e q h. omega (arith, r.slow n m e q h, s.slow n m e q h, mul-le-mul_right e l);
    }

-- what a quantity has risen above b
pub since : (f : ℕ → ℕ → ℕ) (c b : ℕ) → Ramp f c → Ramp (λ (n q : ℕ). f n q - q * b) c
since f c b r =
    record {
      scaled = λ k n q.
          let e : k * q * b ≡ k * (q * b) = omega arith in
          omega (arith, r.scaled k n q, mul-sub k (f n q) (q * b));
      rises = λ n m q h. omega (arith, r.rises n m q h);
      slow = λ n m e q h. omega (arith, r.slow n m e q h);
    }

-- a quantity in place of the time
pub after : (f g : ℕ → ℕ → ℕ) (c d : ℕ) → Ramp f c → Ramp g d → Ramp (λ (n q : ℕ). f (g n q) q) (c * d)
after f g c d r s =
    record {
      scaled = λ k n q. ap (λ (x : ℕ). f x (k * q)) (s.scaled k n q) ∙ r.scaled k (g n q) q;
      rises = λ n m q h. r.rises (g n q) (g m q) q (s.rises n m q h);
      slow = λ n m e q h.
          let l : f (g m q) q ≤ f (g n q) q + c * (d * e) = r.slow (g n q) (g m q) (d * e) q (s.slow n m e q h) in
          omega arith;
    }

-- At two times n/q and r/s

-- a later time has no less of it
pub no_less : (f : ℕ → ℕ → ℕ) (c : ℕ) → Ramp f c → (n q r s : ℕ) → n * s ≤ r * q → f n q * s ≤ f r s * q
no_less f c ramp n q r s h =
    let l : f (s * n) (s * q) ≤ f (q * r) (s * q) = ramp.rises (s * n) (q * r) (s * q) (omega arith) in
    omega (arith, ramp.scaled s n q, ramp.scaled q r s, ap (f (q * r)) (mul_comm s q))

-- the same time, written otherwise, has the same
pub equal : (f : ℕ → ℕ → ℕ) (c : ℕ) → Ramp f c → (n q r s : ℕ) → n * s ≡ r * q → f n q * s ≡ f r s * q
equal f c ramp n q r s h =
    let there : f n q * s ≤ f r s * q = no_less f c ramp n q r s (omega arith) in
    let back : f r s * q ≤ f n q * s = no_less f c ramp r s n q (omega arith) in
    omega arith

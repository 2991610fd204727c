-- Depths at n/q minutes: what is worked out from the numbers that are the same at every minute is what the definitions say.
use Prim.Native.Nat.{ℕ, ◌+◌, ◌-◌, ◌*◌, min}
use mathlib.Core.Path.{◌≡◌}
use native.Mathlib.Omega.{arith}
use native.Mathlib.Nat.{mul_assoc}
use Rattle.panel.specs.declared.Panel.{Panel}
use Rattle.charring.specs.declared.CharringValues.{CharringValues}
use Rattle.charring.specs.Rates.{back_face}
use Rattle.charring.specs.Depths.{char_at, after_at, effective_at, tenths_at}

pub char_is : (f : CharringValues) (n q early back : ℕ) → early ≡ min (1000 * n - q * f.start) (q * (f.failure - f.start)) → back ≡ q * f.back
    → min (2 * f.slow * early + after_at f.panel n q) (2 * back) ≡ char_at f.panel n q
unfolding char_at
char_is f n q early back e b = rw (e, b, f.slow_is, f.start_is, f.failure_is, f.back_is, ← mul_assoc 2 q (back_face f.panel))

-- the back face times q and `full`
pub bottom_is : (full q back r : ℕ) → r ≡ q * back → 2 * full * r ≡ 2 * q * full * back
bottom_is full q back r e = rw e (omega arith)

pub effective_is : (f : CharringValues) (n q full back : ℕ) → full ≡ q * f.full → back ≡ q * f.back
    → min (f.full * char_at f.panel n q + 14000000000 * min (1000 * n) full) (2 * f.full * back) ≡ effective_at f.panel n q
unfolding effective_at
effective_is f n q full back e b = rw (e, bottom_is f.full q f.back back b, f.full_is, f.back_is)

-- the same time of the same panel
pub tenths_same : {p r : Panel} {n m q d : ℕ} → p ≡ r → n ≡ m → q ≡ d → tenths_at p n q ≡ tenths_at r m d
tenths_same e h k = rw (e, h, k)

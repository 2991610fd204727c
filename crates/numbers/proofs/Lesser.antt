-- The lesser of two numbers, compared.
use Prim.Native.Nat.{ℕ, ◌≤◌, min}
use mathlib.Core.Path.{◌≡◌, refl, sym, ap, ◌∙◌}
use mathlib.Core.Bool.{◌&&◌}
use native.Mathlib.Omega.{arith}
use native.Mathlib.Decide.{dec_le}
use borrow.Author.Tests.{le-leb, lt-leb, lt-ltb, le-ltb}
use lib.Dec.{leb, ltb}
use native.Mathlib.Nat.{le_refl, min_comm}

-- a number is at most the lesser of two where it is at most each
pub at_most_both : (m a b : ℕ) → (leb m a && leb m b) ≡ leb m (min a b)
at_most_both m a b = go (dec_le m a) (dec_le m b)
  where
    go : Dec (m ≤ a) → Dec (m ≤ b) → (leb m a && leb m b) ≡ leb m (min a b)
    go (yes k) (yes l) = rw (le-leb m a k, le-leb m b l, le-leb m (min a b) (omega arith)) refl
    go (yes k) (no l) = rw (le-leb m a k, lt-leb m b (omega arith), lt-leb m (min a b) (omega arith)) refl
    go (no k) l = rw (lt-leb m a (omega arith), lt-leb m (min a b) (omega arith)) refl

-- a number is below the lesser of two by the first, or by the second
pub below_lesser : (m a b : ℕ) → m ≤ a → ltb (min a b) m ≡ ltb b m
below_lesser m a b h = go (dec_le m b)
  where
    go : Dec (m ≤ b) → ltb (min a b) m ≡ ltb b m
    go (yes k) = le-ltb (min a b) m (omega arith) ∙ sym (le-ltb b m k)
    go (no k) = lt-ltb (min a b) m (omega arith) ∙ sym (lt-ltb b m (omega arith))

-- and as far as m it is below m where it is
pub below_up_to : (m a : ℕ) → ltb (min a m) m ≡ ltb a m
below_up_to m a = ap (λ (n : ℕ). ltb n m) (min_comm a m) ∙ below_lesser m m a (le_refl m)

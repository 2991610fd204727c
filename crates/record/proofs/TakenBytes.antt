-- What bytes are taken for, at none and at some.
use Prim.Native.Nat.{ℕ}
use mathlib.Core.Path.{◌≡◌, refl}
use mathlib.Core.List.{List, [], ◌∷◌}
use native.Mathlib.Omega.{arith}
use lib.ListN.{length}
use Rattle.record.specs.Taken.{g_bytes, taken_for}

pub taken_none : (b : List ℕ) → length b ≡ 0 → g_bytes ≡ taken_for b
unfolding taken_for
taken_none [] e = refl
taken_none (x ∷ xs) e = absurd (let z : ⊥ = omega (arith, e) in z)

pub taken_some : (b : List ℕ) → (length b ≡ 0 → ⊥) → b ≡ taken_for b
unfolding taken_for
taken_some [] ne = absurd (ne refl)
taken_some (x ∷ xs) ne = refl

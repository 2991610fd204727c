-- A section that carries a moment carries every smaller one.
use Prim.Native.Nat.{ℕ, ◌*◌, ◌≤◌}
use mathlib.Core.Path.{◌≡◌}
use mathlib.Core.Bool.{true}
use native.Mathlib.Nat.{le_trans, mul-le-mul_left, mul-le-mul_right}
use lib.Dec.{ltb}
use borrow.Author.Tests.{leb-true, le-leb}
use Rattle.numbers.proofs.Booleans.{and_left, and_right}
use Rattle.section.specs.declared.Section.{Section}
use Rattle.section.specs.Tests.{edge, inertia, carries}

pub smaller_carries :
    (factor less moment strength : ℕ) (s : Section) → less ≤ moment → carries factor moment strength s ≡ true
    → carries factor less strength s ≡ true
unfolding carries
smaller_carries factor less moment strength s h e =
    let within = leb-true (120000 * moment * edge s) (factor * strength * inertia s) (and_right (ltb 0 s.n) _ e) in
    rw (
      and_left (ltb 0 s.n) _ e,
      le-leb (120000 * less * edge s) (factor * strength * inertia s) (le_trans (mul-le-mul_right (edge s) (mul-le-mul_left 120000 h)) within),
    )

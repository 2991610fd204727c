-- What becomes of b − a, b² − a² and b³ − a³ where a and b are measured from the other end of a thickness s, and what follows for the
-- sums: 4NQ − 3P² stays, and the distances of the two outermost ends change places. Numbers only. Assumes nothing.
use Prim.Native.Nat.{ℕ, ◌+◌, ◌-◌, ◌*◌, ◌≤◌}
use mathlib.Core.Path.{◌≡◌, ap}
use native.Mathlib.Omega.{arith}
use Rattle.section.proofs.Moments.{square_part}

-- one part, from a to a + d, with c behind it
square_apart : (a d c : ℕ) → ((c + d) * (c + d) - c * c) + ((a + d) * (a + d) - a * a) ≡ 2 * (a + d + c) * d
square_apart a d c = omega arith

cube_apart : (a d c : ℕ)
    → ((c + d) * (c + d) * (c + d) - c * c * c) + 3 * (a + d + c) * ((a + d) * (a + d) - a * a)
    ≡ 3 * (a + d + c) * (a + d + c) * d + ((a + d) * (a + d) * (a + d) - a * a * a)
cube_apart a d c = rw (square_part a d) (omega arith)

-- the same part, from a to b
module _ (s a b : ℕ) (forward : a ≤ b) (within : b ≤ s) where
  whole : a + (b - a) + (s - b) ≡ s
  whole = omega arith

  mirrored_end : s - b + (b - a) ≡ s - a
  mirrored_end = omega arith

  end : a + (b - a) ≡ b
  end = omega arith

  -- P' + P ≡ 2sN
  pub square_mirrored : ((s - a) * (s - a) - (s - b) * (s - b)) + (b * b - a * a) ≡ 2 * s * (b - a)
  square_mirrored = rw (whole, mirrored_end, end) at (square_apart a (b - a) (s - b))

  -- Q' + 3sP ≡ 3s²N + Q
  pub cube_mirrored :
      ((s - a) * (s - a) * (s - a) - (s - b) * (s - b) * (s - b)) + 3 * s * (b * b - a * a)
      ≡ 3 * s * s * (b - a) + (b * b * b - a * a * a)
  cube_mirrored = rw (whole, mirrored_end, end) at (cube_apart a (b - a) (s - b))

-- both go over to sums: n, p, q and m of one part and its mirror, N, P, Q and M of others, y of what is there besides
pub square_add : (s n N p P m M y : ℕ) → m + p ≡ 2 * s * n → M + P ≡ 2 * s * N + (m + y) → M + (p + P) ≡ 2 * s * (n + N) + y
square_add s n N p P m M y part others = omega arith

pub cube_add : (s n N p P q Q m M y : ℕ) → m + 3 * s * p ≡ 3 * s * s * n + q → M + 3 * s * P ≡ 3 * s * s * N + Q + (m + y)
    → M + 3 * s * (p + P) ≡ 3 * s * s * (n + N) + (q + Q) + y
cube_add s n N p P q Q m M y part others = omega arith

-- hence 4NQ − 3P² is the same
pub inertia_same : (s n p q p' q' : ℕ) → p' + p ≡ 2 * s * n → q' + 3 * s * p ≡ 3 * s * s * n + q
    → 4 * n * q' - 3 * p' * p' ≡ 4 * n * q - 3 * p * p
inertia_same s n p q p' q' squares cubes =
    let by_n = ap (λ (x : ℕ). 4 * n * x) cubes in
    let by-p' = ap (λ (x : ℕ). 3 * p' * x) squares in
    let by-p = ap (λ (x : ℕ). 3 * p * x) squares in
    let by-sn = ap (λ (x : ℕ). 6 * s * n * x) squares in
    omega arith

-- and an end a is as far from the one centroid as its mirror image b is from the other
pub edge_same : (s n p p' a b : ℕ) → p' + p ≡ 2 * s * n → a + b ≡ s → p' - 2 * n * a ≡ 2 * n * b - p
edge_same s n p p' a b squares ends = omega (arith, ap (λ (x : ℕ). 2 * n * x) ends)

-- Lamellae counted from the fire: each place is one of them, and those behind fewer others are nearer.
use Prim.Native.Nat.{ℕ, zero, suc, ◌+◌, ◌-◌, ◌≤◌, ◌<◌}
use mathlib.Core.Path.{◌≡◌, refl}
use native.Mathlib.Omega.{arith}
use Rattle.planing.specs.LeastCut.{NearerOn}
use Rattle.planing.specs.Answers.{place_on}

-- behind how many others the lamella at a place stands
pub record Behind (face count place : ℕ) : Type 0 where
  pub others : ℕ
  pub fewer : others < count
  pub here : place_on face count others ≡ place

pub place_behind : (face count place : ℕ) → 0 < place → place ≤ count → Behind face count place
place_behind zero count place h k = record { others = place - 1; fewer = omega arith; here = omega arith }
place_behind (suc zero) count place h k = record { others = count - place; fewer = omega arith; here = omega arith }
place_behind (suc (suc face)) count place h k = record { others = place - 1; fewer = omega arith; here = omega arith }

-- the nearer of two is behind fewer
pub nearer_fewer :
    (face count a b : ℕ) → a < count → b < count → NearerOn face (place_on face count a) (place_on face count b) → a < b
nearer_fewer zero count a b h k n = omega arith
nearer_fewer (suc zero) count a b h k n = omega arith
nearer_fewer (suc (suc face)) count a b h k n = omega arith

-- of two places one is nearer or they are the same
pub none_nearer : (face a b : ℕ) → (NearerOn face a b → ⊥) → (NearerOn face b a → ⊥) → a ≡ b
none_nearer zero a b h k = omega arith
none_nearer (suc zero) a b h k = omega arith
none_nearer (suc (suc face)) a b h k = omega arith

-- as the code counts: index `behind` from the first face, count − 1 − behind from the last
pub first_face_place : (face count behind : ℕ) → (face ≡ 1 → ⊥) → behind + 1 ≡ place_on face count behind
first_face_place zero count behind ne = omega arith
first_face_place (suc zero) count behind ne = absurd (ne refl)
first_face_place (suc (suc face)) count behind ne = omega arith

pub last_face_place : (face count behind : ℕ) → face ≡ 1 → behind < count → count - 1 - behind + 1 ≡ place_on face count behind
last_face_place face count behind e h = rw e (omega arith)

-- On a way, while it is fast the char deepens by two for each of x, and while it is settled by one.
use Prim.Native.Nat.{ℕ, ◌+◌, ◌-◌, ◌*◌, ◌/◌, ◌≤◌, ◌<◌, min, max}
use mathlib.Core.Path.{◌≡◌, refl, sym, ap, ◌∙◌}
use mathlib.Core.List.{List, [], ◌∷◌}
use native.Mathlib.Omega.{arith}
use native.Mathlib.Decide.{dec_lt}
use Rattle.phases.specs.declared.Phase.TheVariants.{Settled}
use Rattle.charring.specs.Way.{Stretch, charred, fast_part, settled_part}
use Rattle.phases.specs.Phases.{phase_on}
use Rattle.charring.proofs.WayRamps.{rise, charred_rises}
use Rattle.phases.proofs.PhaseCases.{on_fast, on_settled, on_rest, fast_not_settled}
use Rattle.charring.proofs.DepthParts.{reach}

-- Stages

-- a step from x to y is shared between what lies before b and what lies past it
split : (x y b : ℕ) → x ≤ y → min y b - min x b + (y - b - (x - b)) ≡ y - x
split x y b h = numbers x y (y - x) b (omega arith)
  where
    numbers : (x y d b : ℕ) → y ≡ x + d → min y b - min x b + (y - b - (x - b)) ≡ d
    numbers x y d b e = omega arith

-- a rise at the rate of what follows
rise_along : (c b : ℕ) (g : ℕ → ℕ → ℕ) (x y q : ℕ) → x ≤ y → g (y - q * b) q ≡ g (x - q * b) q + c * (y - q * b - (x - q * b))
    → rise c b g y q ≡ rise c b g x q + c * (y - x)
unfolding rise
rise_along c b g x y q h k =
    numbers c (min y (q * b)) (min x (q * b)) (y - q * b - (x - q * b)) (y - x) (g (y - q * b) q) (g (x - q * b) q)
    (grows x y (q * b) h) (split x y (q * b) h) k
  where
    grows : (x y b : ℕ) → x ≤ y → min x b ≤ min y b
    grows x y b h = omega arith

    numbers : (c u v w d g f : ℕ) → v ≤ u → u - v + w ≡ d → g ≡ f + c * w → c * u + g ≡ c * v + f + c * d
    numbers c u v w d g f l e k =
        let whole : c * (u + w) ≡ c * (v + d) = ap (λ (z : ℕ). c * z) (let s : u + w ≡ v + d = omega arith in s) in
        omega arith

-- a rise that takes nothing of the step
rise_past : (r c b : ℕ) (g : ℕ → ℕ → ℕ) (x y q : ℕ) → x ≤ y → min y (q * b) ≡ min x (q * b)
    → g (y - q * b) q ≡ g (x - q * b) q + c * (y - q * b - (x - q * b)) → rise r b g y q ≡ rise r b g x q + c * (y - x)
unfolding rise
rise_past r c b g x y q h same k =
    let e : y - q * b - (x - q * b) ≡ y - x = none_before (min y (q * b)) (min x (q * b)) (y - q * b - (x - q * b)) (y - x) same
    (split x y (q * b) h) in
    numbers (r * min y (q * b)) (r * min x (q * b)) (g (y - q * b) q) (g (x - q * b) q) (c * (y - x)) (ap (λ (z : ℕ). r * z) same) (rw e at k)
  where
    none_before : (u v w d : ℕ) → u ≡ v → u - v + w ≡ d → w ≡ d
    none_before u v w d e s = omega arith

    numbers : (a b g f d : ℕ) → a ≡ b → g ≡ f + d → a + g ≡ b + f + d
    numbers a b g f d e k = omega arith

-- Ways

-- what happens past the first stretch happens on the rest of the way
on_later : (s : Stretch) (ss : List Stretch) (q z : ℕ)
    → phase_on (s ∷ ss) (z + (q * fast_part s + 2 * q * settled_part s)) q ≡ phase_on ss z q
on_later s ss q z =
    on_rest s ss (z + (q * fast_part s + 2 * q * settled_part s)) q (reach_past z (q * fast_part s + 2 * q * settled_part s))
    ∙ ap (λ (k : ℕ). phase_on ss k q) (back_again z (q * fast_part s) (2 * q * settled_part s))
  where
    reach_past : (z a : ℕ) → a ≤ z + a
    reach_past z a = omega arith

    back_again : (z a b : ℕ) → z + (a + b) - a - b ≡ z
    back_again z a b = omega arith

-- the numbers of a step past a and b
past_both : (x y a b : ℕ) → x ≤ y → x - a - b ≤ y - a - b
past_both x y a b h = omega arith

past_one : (x y a : ℕ) → x ≤ y → x - a ≤ y - a
past_one x y a h = omega arith

from_past : (x z a b : ℕ) → x - a - b ≤ z → x ≤ z + (a + b)
from_past x z a b h = omega arith

to_past : (y z a b : ℕ) → z < y - a - b → z + (a + b) < y
to_past y z a b h = omega arith

-- the two ways to write what a settled part takes
twice_settled : (q t : ℕ) → 2 * q * t ≡ q * (2 * t)
twice_settled q t = omega arith

-- a settled part takes nothing of a step that meets none of it
still : (x y a b : ℕ) → x ≤ y → (max x a < min y (a + b) → ⊥) → min (y - a) b ≡ min (x - a) b
still x y a b h never = go (dec_lt (max x a) (min y (a + b)))
  where
    go : Dec (max x a < min y (a + b)) → min (y - a) b ≡ min (x - a) b
    go (yes k) = absurd (never k)
    go (no k) = omega arith

-- past the end of a way
charred_empty : (x q : ℕ) → charred [] x q ≡ 0
unfolding charred
charred_empty x q = refl

pub on_empty : (x q : ℕ) → phase_on [] x q ≡ Settled
unfolding phase_on
on_empty x q = refl

-- fast all along
pub fast_run_lem : (ss : List Stretch) (x y q : ℕ) → x ≤ y
    → ((z : ℕ) → x ≤ z → z < y → phase_on ss z q ≡ Settled → ⊥) → charred ss y q ≡ charred ss x q + 2 * (y - x)
fast_run_lem [] x y q h never = go (dec_lt x y)
  where
    go : Dec (x < y) → charred [] y q ≡ charred [] x q + 2 * (y - x)
    go (yes k) = absurd (never x (omega arith) k (on_empty x q))
    go (no k) = omega (arith, charred_empty x q, charred_empty y q)
fast_run_lem (s ∷ ss) x y q h never =
    let a : ℕ = q * fast_part s in
    let b : ℕ = q * (2 * settled_part s) in
    let same : 2 * q * settled_part s ≡ b = twice_settled q (settled_part s) in
    let later : charred ss (y - a - b) q ≡ charred ss (x - a - b) q + 2 * (y - a - b - (x - a - b)) =
    fast_run_lem ss (x - a - b) (y - a - b) q (past_both x y a b h)
    (λ z l u f.
    never (z + (a + b)) (from_past x z a b l) (to_past y z a b u)
    (rw same at (on_later s ss q z) ∙ f)) in
    let empty : min (y - a) b ≡ min (x - a) b =
    still x y a b h
    (λ k.
    never (max x a) (first x a) (second x a y (a + b) k)
    (on_settled s ss (max x a) q (third x a) (rw same (fourth x a y (a + b) k)))) in
    charred_rises s ss y q
    ∙ rise_along 2 (fast_part s) (rise 1 (2 * settled_part s) (charred ss)) x y q h
    (rise_past 1 2 (2 * settled_part s) (charred ss) (x - a) (y - a) q (past_one x y a h) empty later)
    ∙ ap (λ (k : ℕ). k + 2 * (y - x)) (sym (charred_rises s ss x q))
  where
    first : (x a : ℕ) → x ≤ max x a
    first x a = omega arith

    second : (x a y c : ℕ) → max x a < min y c → max x a < y
    second x a y c h = omega arith

    third : (x a : ℕ) → a ≤ max x a
    third x a = omega arith

    fourth : (x a y c : ℕ) → max x a < min y c → max x a < c
    fourth x a y c h = omega arith

-- settled all along
pub settled_run : (ss : List Stretch) (x y q : ℕ) → x ≤ y → y ≤ reach ss q
    → ((z : ℕ) → x ≤ z → z < y → phase_on ss z q ≡ Settled) → charred ss y q ≡ charred ss x q + 1 * (y - x)
unfolding reach
settled_run [] x y q h within always = omega (arith, charred_empty x q, charred_empty y q, none q)
  where
    none : (q : ℕ) → reach [] q ≡ 0
    none q = refl
settled_run (s ∷ ss) x y q h within always =
    let a : ℕ = q * fast_part s in
    let b : ℕ = q * (2 * settled_part s) in
    let same : 2 * q * settled_part s ≡ b = twice_settled q (settled_part s) in
    let later : charred ss (y - a - b) q ≡ charred ss (x - a - b) q + 1 * (y - a - b - (x - a - b)) =
    settled_run ss (x - a - b) (y - a - b) q (past_both x y a b h) (short a b y (reach ss q) (rw same at within))
    (λ z l u.
    sym (rw same at (on_later s ss q z)) ∙ always (z + (a + b)) (from_past x z a b l) (to_past y z a b u)) in
    let empty : min y a ≡ min x a =
    passed x y a h
    (λ k l. fast_not_settled (phase_on (s ∷ ss) x q) (s.end / 10000) (on_fast s ss x q k) (always x (omega arith) l)) in
    charred_rises s ss y q
    ∙ rise_past 2 1 (fast_part s) (rise 1 (2 * settled_part s) (charred ss)) x y q h empty
    (rise_along 1 (2 * settled_part s) (charred ss) (x - a) (y - a) q (past_one x y a h) later)
    ∙ ap (λ (k : ℕ). k + 1 * (y - x)) (sym (charred_rises s ss x q))
  where
    short : (a b y c : ℕ) → y ≤ a + b + c → y - a - b ≤ c
    short a b y c h = omega arith

    passed : (x y a : ℕ) → x ≤ y → (x < a → x < y → ⊥) → min y a ≡ min x a
    passed x y a h never = go (dec_lt x a) (dec_lt x y)
      where
        go : Dec (x < a) → Dec (x < y) → min y a ≡ min x a
        go (yes k) (yes l) = absurd (never k l)
        go (yes k) (no l) = omega arith
        go (no k) l = omega arith

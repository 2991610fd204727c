-- A panel's way: its stretches follow each other from the depth at t_f to the back face.
use Prim.Native.Nat.{ℕ, ◌+◌, ◌-◌, ◌*◌, ◌/◌, ◌≤◌, ◌<◌, min, max}
use mathlib.Core.Path.{◌≡◌, refl}
use mathlib.Core.List.{List, [], ◌∷◌}
use mathlib.Core.Bool.{Bool, true, false}
use native.Mathlib.Omega.{arith}
use lib.Dec.{ltb, eqb}
use borrow.Author.Tests.{ltb-false}
use Rattle.numbers.specs.Choice.{pick}
use Rattle.panel.specs.declared.Panel.{Panel}
use Rattle.panel.specs.Products.{rate_of}
use Rattle.panel.specs.Lamellae.{Lamella, lamellae}
use Rattle.charring.specs.Rates.{tenth, fast_run, start_of, failure_of, plain_rate, clad, back_face, depth_at_failure}
use Rattle.charring.specs.Rates.{lines_from, bond_lines, line_end, intact_end, passed_end, first_end}
use Rattle.charring.specs.Way.{Stretch, stretches, way, charred, fast_part, settled_part}

-- Depths that are whole hundred-thousandths of a mm

-- a multiple of 10,000 picometres
pub record Exact (n : ℕ) : Type 0 where
  pub count : ℕ
  pub is : n ≡ 10000 * count

-- so that the whole of it is named in hundred-thousandths of a mm
pub exact_whole : (a : ℕ) → Exact a → 10000 * (a / 10000) ≡ a
exact_whole a h = numbers a h.count h.is
  where
    numbers : (a k : ℕ) → a ≡ 10000 * k → 10000 * (a / 10000) ≡ a
    numbers a k h = omega arith

exact_min : (a b : ℕ) → Exact a → Exact b → Exact (min a b)
exact_min a b h k = record { count = min h.count k.count; is = numbers a b h.count k.count h.is k.is }
  where
    numbers : (a b x y : ℕ) → a ≡ 10000 * x → b ≡ 10000 * y → min a b ≡ 10000 * min x y
    numbers a b x y h k = omega arith

exact_run : (a : ℕ) → Exact a → Exact (a + fast_run)
exact_run a h = record { count = h.count + 2500000; is = numbers a h.count h.is }
  where
    numbers : (a x : ℕ) → a ≡ 10000 * x → a + fast_run ≡ 10000 * (x + 2500000)
    numbers a x h = omega arith

exact_tenths : (a t : ℕ) → Exact a → Exact (a + tenth * t)
exact_tenths a t h = record { count = h.count + 10000 * t; is = numbers a t h.count h.is }
  where
    numbers : (a t x : ℕ) → a ≡ 10000 * x → a + tenth * t ≡ 10000 * (x + 10000 * t)
    numbers a t x h = omega arith

exact_pick : (b : Bool) (x y : ℕ) → Exact x → Exact y → Exact (pick b x y)
exact_pick true x y h k = h
exact_pick false x y h k = k

-- "kept exactly in hundred-thousandths of a mm": the first run's end if no line was passed
exact_intact : (p : Panel) → Exact (intact_end p)
unfolding intact_end
exact_intact p =
    exact_pick (clad p.cladding) (pick (eqb (start_of p) (failure_of p)) (min (2 * plain_rate p * failure_of p) fast_run) fast_run) 0
    (exact_pick (eqb (start_of p) (failure_of p)) (min (2 * plain_rate p * failure_of p) fast_run) fast_run
    (exact_min (2 * plain_rate p * failure_of p) fast_run (record { count = 2 * rate_of p * failure_of p; is = omega arith }) run) run)
    (record { count = 0; is = refl })
  where
    run : Exact fast_run
    run = record { count = 2500000; is = refl }

-- every number of a list
pub data AllExact : List ℕ → Type 0 where
  none : AllExact []
  both : {n : ℕ} {ns : List ℕ} → Exact n → AllExact ns → AllExact (n ∷ ns)

exact_lines : (top : ℕ) (ls : List Lamella) → Exact top → AllExact (lines_from top ls)
unfolding lines_from
exact_lines top [] h = none
exact_lines top (l ∷ []) h = none
exact_lines top (l ∷ m ∷ ls) h =
    both (exact_tenths top l.thickness h) (exact_lines (top + tenth * l.thickness) (m ∷ ls) (exact_tenths top l.thickness h))

pub exact_bond : (p : Panel) → AllExact (bond_lines p)
unfolding bond_lines
exact_bond p = go (eqb p.bond 1)
  where
    go : (b : Bool) → AllExact (elim b as (λ _. List ℕ) [ true ↦ lines_from 0 (lamellae p) | false ↦ [] ])
    go true = exact_lines 0 (lamellae p) (record { count = 0; is = refl })
    go false = none

pub exact_line_end : (line : ℕ) (lines : List ℕ) → Exact line → AllExact lines → Exact (line_end line lines)
unfolding line_end
exact_line_end line [] h none = exact_run line h
exact_line_end line (next ∷ lines) h (both k ks) = exact_min (line + fast_run) next (exact_run line h) k

exact_passed : (deep end : ℕ) (lines : List ℕ) → Exact end → AllExact lines → Exact (passed_end deep end lines)
unfolding passed_end
exact_passed deep end [] h none = h
exact_passed deep end (line ∷ lines) h (both k ks) =
    exact_passed deep (pick (ltb line deep) (line_end line lines) end) lines
    (exact_pick (ltb line deep) (line_end line lines) end (exact_line_end line lines k ks) h) ks

-- and if lines were
pub exact_first : (p : Panel) → Exact (first_end p)
unfolding first_end
exact_first p = exact_passed (depth_at_failure p) (intact_end p) (bond_lines p) (exact_intact p) (exact_bond p)

-- Stretches that follow each other from a depth to the back face, their ends exact

pub data Chain : ℕ → ℕ → List Stretch → Type 0 where
  last : {a back : ℕ} {s : Stretch} → s.from ≡ a → s.to ≡ back → Exact s.end → Chain a back (s ∷ [])
  next :
      {a back : ℕ} {s : Stretch} {ss : List Stretch} → s.from ≡ a → s.from ≤ s.to → Exact s.end
      → Chain s.to back ss → Chain a back (s ∷ ss)

pub chain : (from end : ℕ) (lines : List ℕ) (back : ℕ) → Exact end → AllExact lines → Chain from back (stretches from end lines back)
unfolding stretches
chain from end [] back h none = last refl refl h
chain from end (line ∷ lines) back h (both k ks) =
    go (ltb line from) refl (chain from end lines back h ks)
    (chain line (line_end line lines) lines back (exact_line_end line lines k ks) ks)
  where
    go :
        (b : Bool) → ltb line from ≡ b → Chain from back (stretches from end lines back)
        → Chain line back (stretches line (line_end line lines) lines back)
        → Chain from back
        (elim b as (λ _. List Stretch) [
          | true ↦ stretches from end lines back
          | false ↦ record { from = from; end = end; to = line } ∷ stretches line (line_end line lines) lines back
        ])
    go true e passed reached = passed
    go false e passed reached = next refl (ltb-false line from e) h reached

-- the way of a panel from t_f on
pub way_chain : (p : Panel) → Chain (depth_at_failure p) (back_face p) (way p)
unfolding way
way_chain p = chain (depth_at_failure p) (first_end p) (bond_lines p) (back_face p) (exact_first p) (exact_bond p)

-- The two parts of a stretch

-- a stretch that goes deeper is as long as its parts together
pub parts : (s : Stretch) → s.from ≤ s.to → s.from + fast_part s + settled_part s ≡ s.to
parts s h = numbers s.from s.end s.to h
  where
    numbers : (a e b : ℕ) → a ≤ b → a + (min e b - a) + (b - max a e) ≡ b
    numbers a e b h = omega arith

-- and never shorter
pub parts_cover : (s : Stretch) → s.to ≤ s.from + fast_part s + settled_part s
parts_cover s = numbers s.from s.end s.to
  where
    numbers : (a e b : ℕ) → b ≤ a + (min e b - a) + (b - max a e)
    numbers a e b = omega arith

-- a fast part that is not empty ends at the end or before
pub fast_part_end : (s : Stretch) → 0 < fast_part s → s.from + fast_part s ≤ s.end
fast_part_end s h = numbers s.from s.end s.to h
  where
    numbers : (a e b : ℕ) → 0 < min e b - a → a + (min e b - a) ≤ e
    numbers a e b h = omega arith

-- nor past the stretch
pub fast_part_to : (s : Stretch) → 0 < fast_part s → s.from + fast_part s ≤ s.to
fast_part_to s h = numbers s.from s.end s.to h
  where
    numbers : (a e b : ℕ) → 0 < min e b - a → a + (min e b - a) ≤ b
    numbers a e b h = omega arith

-- a settled part that is not empty follows the end
pub settled_part_end : (s : Stretch) → 0 < settled_part s → s.end ≤ s.from + fast_part s
settled_part_end s h = numbers s.from s.end s.to h
  where
    numbers : (a e b : ℕ) → 0 < b - max a e → e ≤ a + (min e b - a)
    numbers a e b h = omega arith

pub settled_part_to : (s : Stretch) → 0 < settled_part s → s.from ≤ s.to
settled_part_to s h = numbers s.from s.end s.to h
  where
    numbers : (a e b : ℕ) → 0 < b - max a e → a ≤ b
    numbers a e b h = omega arith

-- a whole stretch passed
pub charred_past : (s : Stretch) (ss : List Stretch) (x q : ℕ) → q * fast_part s + 2 * q * settled_part s ≤ x
    → charred (s ∷ ss) x q
    ≡ 2 * q * fast_part s + 2 * q * settled_part s + charred ss (x - q * fast_part s - 2 * q * settled_part s) q
unfolding charred
charred_past s ss x q h =
    numbers x (q * fast_part s) (2 * q * settled_part s) (2 * q * fast_part s)
    (charred ss (x - q * fast_part s - 2 * q * settled_part s) q) h (omega arith)
  where
    numbers : (x a b c g : ℕ) → a + b ≤ x → 2 * a ≡ c → 2 * min x a + min (x - a) b + g ≡ c + b + g
    numbers x a b c g h e = omega arith

-- within the fast part of the first stretch
pub charred_within : (s : Stretch) (ss : List Stretch) (x q : ℕ) → x < q * fast_part s → charred (s ∷ ss) x q ≡ 2 * x + charred ss 0 q
unfolding charred
charred_within s ss x q h =
    let e : x - q * fast_part s - 2 * q * settled_part s ≡ 0 = none_left x (q * fast_part s) (2 * q * settled_part s) h in
    rw e (numbers x (q * fast_part s) (2 * q * settled_part s) (charred ss 0 q) h)
  where
    none_left : (x a b : ℕ) → x < a → x - a - b ≡ 0
    none_left x a b h = omega arith

    numbers : (x a b g : ℕ) → x < a → 2 * min x a + min (x - a) b + g ≡ 2 * x + g
    numbers x a b g h = omega arith

-- within the settled part
pub charred_settled : (s : Stretch) (ss : List Stretch) (x q : ℕ) → q * fast_part s ≤ x → x < q * fast_part s + 2 * q * settled_part s
    → charred (s ∷ ss) x q ≡ q * fast_part s + x + charred ss 0 q
unfolding charred
charred_settled s ss x q h k =
    let e : x - q * fast_part s - 2 * q * settled_part s ≡ 0 = none_left x (q * fast_part s) (2 * q * settled_part s) k in
    rw e (numbers x (q * fast_part s) (2 * q * settled_part s) (charred ss 0 q) h k)
  where
    none_left : (x a b : ℕ) → x < a + b → x - a - b ≡ 0
    none_left x a b h = omega arith

    numbers : (x a b g : ℕ) → a ≤ x → x < a + b → 2 * min x a + min (x - a) b + g ≡ a + x + g
    numbers x a b g h k = omega arith

-- where nothing has gone on, nothing has charred
pub charred_none : (ss : List Stretch) (q : ℕ) → charred ss 0 q ≡ 0
unfolding charred
charred_none [] q = refl
charred_none (s ∷ ss) q =
    let e : 0 - q * fast_part s - 2 * q * settled_part s ≡ 0 = none_left (q * fast_part s) (2 * q * settled_part s) in
    rw e (numbers (q * fast_part s) (2 * q * settled_part s) (charred ss 0 q) (charred_none ss q))
  where
    none_left : (a b : ℕ) → 0 - a - b ≡ 0
    none_left a b = omega arith

    numbers : (a b g : ℕ) → g ≡ 0 → 2 * min 0 a + min (0 - a) b + g ≡ 0
    numbers a b g h = omega arith

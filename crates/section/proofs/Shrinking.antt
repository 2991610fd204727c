-- A deeper section is smaller: N, e and 4NQ − 3P² fall as the depth grows, so that all depths from one to another can be tested at once.
-- Assumes nothing.
use Prim.Native.Nat.{ℕ, ◌+◌, ◌-◌, ◌*◌, ◌≤◌, ◌<◌, max}
use mathlib.Core.Path.{◌≡◌, refl}
use mathlib.Core.Bool.{Bool, true, false}
use mathlib.Core.List.{List, [], ◌∷◌}
use native.Mathlib.Nat.{le_refl, le_trans, mul-le-mul_left}
use native.Mathlib.Omega.{arith}
use lib.Dec.{ltb}
use borrow.Author.Tests.{leb-true, le-leb, ltb-true, lt-ltb}
use Rattle.numbers.proofs.Booleans.{and_left, and_right, not_both}
use Rattle.panel.specs.Lamellae.{Lamella, along, thickness}
use Rattle.section.specs.declared.Section.{Section}
use Rattle.section.specs.Sections.{Part, least_remainder, rest, counts, keep_if, counted_from, counted, total, lowest, highest, section_of}
use Rattle.section.specs.Tests.{edge, inertia, carries}
use Rattle.section.specs.Between.{carries_between}
use Rattle.section.proofs.Chains.{Chain, none, more, part, counted_ahead, counts_forward, counted_chain, chain_ends, highest_same}
use Rattle.section.proofs.Moments.{inertia_adds, moments_part, part_above, part_below}
use Rattle.section.proofs.NothingCut.{total_moments, chain_highest}
use Rattle.numbers.proofs.Products.{square_rises, cube_rises}

-- no greater in any of the three that the test asks for
record Smaller (deep shallow : Section) : Type 0 where
  n : deep.n ≤ shallow.n
  edge : edge deep ≤ edge shallow
  inertia : inertia deep ≤ inertia shallow

same_smaller : (s : Section) → Smaller s s
same_smaller s = record { n = le_refl _; edge = le_refl _; inertia = le_refl _ }

smaller_trans : {r s t : Section} → Smaller r s → Smaller s t → Smaller r t
smaller_trans one two =
    record { n = le_trans one.n two.n; edge = le_trans one.edge two.edge; inertia = le_trans one.inertia two.inertia }

-- e of N, P, lo and hi is no greater than with a piece n, p in front, from t on
edge_adds : (n p N P t lo hi : ℕ) → t ≤ lo → 2 * n * t ≤ p → p ≤ 2 * n * hi
    → max (P - 2 * N * lo) (2 * N * hi - P) ≤ max (p + P - 2 * (n + N) * t) (2 * (n + N) * hi - (p + P))
edge_adds n p N P t lo hi sooner above below =
    let moved : 2 * N * t ≤ 2 * N * lo = mul-le-mul_left (2 * N) sooner in
    omega arith

-- without its first part a section is smaller
without_first : (x : Part) {bottom : ℕ} {xs : List Part} → x.from ≤ x.to → Chain x.to xs bottom
    → Smaller (section_of xs) (section_of (x ∷ xs))
unfolding section_of total lowest highest
without_first x forward (none below) = record { n = omega arith; edge = omega arith; inertia = omega arith }
without_first x forward (more {x = y} {xs = ys} after forward' c) =
    let others = more after forward' c in
    record {
      n = omega arith;
      edge =
          edge_adds _ _ _ _ x.from y.from (highest (y ∷ ys)) (omega arith) (part_above x.from x.from x.to (le_refl _) forward)
          (part_below (highest (y ∷ ys)) x.from x.to (chain_ends (chain_highest others)) forward);
      inertia = inertia_adds _ _ _ _ _ _ (moments_part x.from x.to forward) (total_moments others);
    }

-- a part in two pieces gives the same sums
part_in_two : (a b c : ℕ) (xs : List Part) → a ≤ b → b ≤ c → section_of (part a b ∷ part b c ∷ xs) ≡ section_of (part a c ∷ xs)
unfolding section_of total lowest highest
part_in_two a b c xs ab bc =
    λ i.
    record {
      n = joined (λ (x : ℕ). x) (λ x y xy. xy) i;
      p = joined (λ (x : ℕ). x * x) square_rises i;
      q = joined (λ (x : ℕ). x * x * x) cube_rises i;
      lo = a;
      hi = highest_same b a c xs i;
    }
  where
    joined :
        (f : ℕ → ℕ) → ((x y : ℕ) → x ≤ y → f x ≤ f y)
        → f b - f a + (f c - f b + total f xs) ≡ f c - f a + total f xs
    joined f rises = omega (arith, rises a b ab, rises b c bc)

-- a section whose first part begins later is smaller
later_first : (a b c : ℕ) {bottom : ℕ} {xs : List Part} → a ≤ b → b < c → Chain c xs bottom
    → Smaller (section_of (part b c ∷ xs)) (section_of (part a c ∷ xs))
later_first a b c {xs = xs} ab bc chain =
    rw (part_in_two a b c xs ab (omega arith)) at (without_first (part a b) ab (more (le_refl b) bc chain))

-- a lamella that counts at a depth counts at a shallower
pub counts_shallower : (a b top : ℕ) (l : Lamella) → a ≤ b → counts b top l ≡ true → counts a top l ≡ true
counts_shallower a b top l h e =
    let least = leb-true least_remainder ((rest b top l).to - (rest b top l).from) (and_right (along l) _ e) in
    rw (and_left (along l) _ e, le-leb least_remainder ((rest a top l).to - (rest a top l).from) (omega arith))

-- the section of lamellae that begin at any top is smaller at a deeper depth
shrinks : (a b top : ℕ) (ls : List Lamella) → a ≤ b → Smaller (section_of (counted_from b top ls)) (section_of (counted_from a top ls))
unfolding counted_from
shrinks a b top [] h = same_smaller _
shrinks a b top (l ∷ ls) h = go (counts a top l) (counts b top l) refl refl (shrinks a b (top + l.thickness) ls h)
  where
    end : ℕ
    end = top + l.thickness

    below : Chain end (counted_from a end ls) (end + thickness ls)
    below = counted_chain a end (end + thickness ls) ls (omega arith)

    go :
        (shallow deep : Bool) → counts a top l ≡ shallow → counts b top l ≡ deep
        → Smaller (section_of (counted_from b end ls)) (section_of (counted_from a end ls))
        → Smaller (section_of (keep_if deep (rest b top l) (counted_from b end ls))) (section_of (keep_if shallow (rest a top l) (counted_from a end ls)))
    go false false e f deeper = deeper
    go true false e f deeper =
        smaller_trans deeper (without_first (rest a top l) (omega (arith, counts_forward a top l e)) below)
    go true true e f deeper =
        let forward = counts_forward b top l f in
        rw (counted_ahead b a end ls (omega arith) (omega arith))
        (later_first (max a top) (max b top) end (omega arith) forward below)
    go false true e f deeper = absurd (not_both (counts a top l) (counts_shallower a b top l h f) e)

-- a section between two that pass together passes
between_passes :
    (factor moment strength : ℕ) (shallow s deep : Section) → Smaller s shallow → Smaller deep s
    → carries_between factor moment strength shallow deep ≡ true → carries factor moment strength s ≡ true
unfolding carries_between carries
between_passes factor moment strength shallow s deep one two e =
    let some = ltb-true 0 deep.n (and_left (ltb 0 deep.n) _ e) in
    let within = leb-true (120000 * moment * edge shallow) (factor * strength * inertia deep) (and_right (ltb 0 deep.n) _ e) in
    let load = mul-le-mul_left (120000 * moment) one.edge in
    let bearing = mul-le-mul_left (factor * strength) two.inertia in
    rw (
      lt-ltb 0 s.n (le_trans some two.n),
      le-leb (120000 * moment * edge s) (factor * strength * inertia s) (le_trans load (le_trans within bearing)),
    )

-- THE LAWS
pub n_falls : (a b : ℕ) (ls : List Lamella) → a ≤ b → (section_of (counted b ls)).n ≤ (section_of (counted a ls)).n
n_falls a b ls h = (shrinks a b 0 ls h).n

pub inertia_falls : (a b : ℕ) (ls : List Lamella) → a ≤ b → inertia (section_of (counted b ls)) ≤ inertia (section_of (counted a ls))
inertia_falls a b ls h = (shrinks a b 0 ls h).inertia

pub edge_falls : (a b : ℕ) (ls : List Lamella) → a ≤ b → edge (section_of (counted b ls)) ≤ edge (section_of (counted a ls))
edge_falls a b ls h = (shrinks a b 0 ls h).edge

-- where the two ends of a range of depths pass together, so does every depth between them
pub between_carries :
    (factor moment strength a d b : ℕ) (ls : List Lamella) → a ≤ d → d ≤ b
    → carries_between factor moment strength (section_of (counted a ls)) (section_of (counted b ls)) ≡ true
    → carries factor moment strength (section_of (counted d ls)) ≡ true
between_carries factor moment strength a d b ls ad db =
    between_passes factor moment strength _ _ _ (shrinks a d 0 ls ad) (shrinks d b 0 ls db)

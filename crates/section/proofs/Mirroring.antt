-- At depth 0 a panel that is tested from its other face is tested alike: its counted parts are the same, measured from the other end.
-- Assumes nothing.
use Prim.Native.Nat.{ℕ, ◌+◌, ◌-◌, ◌*◌, ◌≤◌, max}
use mathlib.Core.Path.{◌≡◌, refl, sym, ap, ap₂, subst, ◌∙◌}
use mathlib.Core.Bool.{Bool, true, false, ◌&&◌}
use mathlib.Core.List.{List, [], ◌∷◌, reverse, reverse_aux}
use native.Mathlib.Nat.{max_comm}
use native.Mathlib.Omega.{arith}
use lib.Dec.{leb}
use Rattle.panel.specs.declared.Panel.{Panel}
use Rattle.panel.specs.Lamellae.{Lamella, along, thickness, lamellae}
use Rattle.panel.specs.Products.{product_of, factor_of}
use Rattle.panel.specs.Faces.{turned}
use Rattle.panel.proofs.Turning.{turned_lamellae}
use Rattle.section.specs.declared.Section.{Section}
use Rattle.section.specs.Sections.{Part, least_remainder, rest, counts, keep_if, counted_from, counted, total, lowest, highest, section_of}
use Rattle.section.specs.Tests.{edge, carries, section_at, depth_passes}
use Rattle.section.specs.Mirrored.{Mirrored}
use Rattle.section.proofs.Chains.{Chain, none, more, chain_ends, highest_within, counted_chain}
use Rattle.section.proofs.MirrorSums.{square_mirrored, cube_mirrored, square_add, cube_add, inertia_same, edge_same}

-- a part, measured from the other end of a thickness s
abbrev mirror : ℕ → Part → Part
mirror s x = record { from = s - x.to; to = s - x.from }

-- parts so measured, which come last first, and others after them
abbrev mirror_onto : ℕ → List Part → List Part → List Part
mirror_onto s [] ys = ys
mirror_onto s (x ∷ xs) ys = mirror_onto s xs (mirror s x ∷ ys)

-- The counted parts

-- whether a lamella counts at depth 0 does not depend on where it begins
counts_anywhere : (top next : ℕ) (l : Lamella) → counts 0 next l ≡ counts 0 top l
counts_anywhere top next l =
    let same : (rest 0 next l).to - (rest 0 next l).from ≡ (rest 0 top l).to - (rest 0 top l).from = omega arith in
    ap (λ (d : ℕ). along l && leb least_remainder d) same

rest_mirrored : (s top next : ℕ) (l : Lamella) → s ≡ top + l.thickness + next → rest 0 next l ≡ mirror s (rest 0 top l)
rest_mirrored s top next l e =
    let from : (rest 0 next l).from ≡ s - (rest 0 top l).to = omega arith in
    let to : (rest 0 next l).to ≡ s - (rest 0 top l).from = omega arith in
    λ i. record { from = from i; to = to i }

keep_if_mirrored : (s : ℕ) (b : Bool) (x : Part) (xs ys : List Part)
    → mirror_onto s xs (keep_if b (mirror s x) ys) ≡ mirror_onto s (keep_if b x xs) ys
keep_if_mirrored s true x xs ys = refl
keep_if_mirrored s false x xs ys = refl

-- the counted parts of lamellae reversed, the first of which begins at start, and of others that begin at next
counted_onto : (s start top next : ℕ) (ls ms : List Lamella) → next ≡ start + thickness ls → s ≡ top + next
    → counted_from 0 start (reverse_aux ls ms) ≡ mirror_onto s (counted_from 0 top ls) (counted_from 0 next ms)
unfolding counted_from thickness
counted_onto s start top next [] ms e h =
    let here : start ≡ next = omega arith in
    ap (λ (t : ℕ). counted_from 0 t ms) here
counted_onto s start top next (l ∷ ls) ms e h =
    let begins : ℕ = start + thickness ls in
    let ends : begins + l.thickness ≡ next = omega arith in
    counted_onto s start (top + l.thickness) begins ls (l ∷ ms) refl (omega arith)
    ∙ rw (counts_anywhere top begins l, rest_mirrored s top begins l (omega arith), ends)
    (keep_if_mirrored s (counts 0 top l) (rest 0 top l) (counted_from 0 (top + l.thickness) ls) (counted_from 0 next ms))

-- The sums and the ends

module _ (s : ℕ) where
  -- N is the same
  n_onto : {top bottom : ℕ} {xs : List Part} → Chain top xs bottom → bottom ≤ s → (ys : List Part)
      → total (λ (x : ℕ). x) (mirror_onto s xs ys) ≡ total (λ (x : ℕ). x) xs + total (λ (x : ℕ). x) ys
  unfolding total
  n_onto (none below) h ys = omega arith
  n_onto (more {x = x} after forward c) h ys = omega (arith, chain_ends c, n_onto c h (mirror s x ∷ ys))

  -- P' + P ≡ 2sN
  p_onto : {top bottom : ℕ} {xs : List Part} → Chain top xs bottom → bottom ≤ s → (ys : List Part)
      → total (λ (x : ℕ). x * x) (mirror_onto s xs ys) + total (λ (x : ℕ). x * x) xs
      ≡ 2 * s * total (λ (x : ℕ). x) xs + total (λ (x : ℕ). x * x) ys
  unfolding total
  p_onto (none below) h ys = omega arith
  p_onto (more {x = x} after forward c) h ys =
      let end = chain_ends c in
      let part = square_mirrored s x.from x.to (omega arith) (omega arith) in
      square_add s _ _ _ _ _ _ _ part (p_onto c h (mirror s x ∷ ys))

  -- Q' + 3sP ≡ 3s²N + Q
  q_onto : {top bottom : ℕ} {xs : List Part} → Chain top xs bottom → bottom ≤ s → (ys : List Part)
      → total (λ (x : ℕ). x * x * x) (mirror_onto s xs ys) + 3 * s * total (λ (x : ℕ). x * x) xs
      ≡ 3 * s * s * total (λ (x : ℕ). x) xs + total (λ (x : ℕ). x * x * x) xs + total (λ (x : ℕ). x * x * x) ys
  unfolding total
  q_onto (none below) h ys = omega arith
  q_onto (more {x = x} after forward c) h ys =
      let end = chain_ends c in
      let part = cube_mirrored s x.from x.to (omega arith) (omega arith) in
      cube_add s _ _ _ _ _ _ _ _ _ part (q_onto c h (mirror s x ∷ ys))

  lowest_onto : (x : Part) (xs ys : List Part) → lowest (mirror_onto s (x ∷ xs) ys) ≡ s - highest (x ∷ xs)
  unfolding lowest highest
  lowest_onto x [] ys = refl
  lowest_onto x (y ∷ xs) ys = lowest_onto y xs (mirror s x ∷ ys)

  highest_onto : (xs : List Part) (y : Part) (ys : List Part) → highest (mirror_onto s xs (y ∷ ys)) ≡ highest (y ∷ ys)
  unfolding highest
  highest_onto [] y ys = refl
  highest_onto (x ∷ xs) y ys = highest_onto xs (mirror s x) (y ∷ ys)

-- a section is another from the other face by its sums and its ends
mirrored_by : (t : ℕ) (s r : Section) → r.n ≡ s.n → r.p + s.p ≡ 2 * t * s.n → r.q + 3 * t * s.p ≡ 3 * t * t * s.n + s.q
    → r.lo + s.hi ≡ t → s.lo + r.hi ≡ t → Mirrored t s r
mirrored_by t s r n p q lo hi =
    record {
      n = n;
      p = p;
      inertia = rw n (inertia_same t s.n s.p s.q r.p r.q p q);
      outer = rw n (edge_same t s.n s.p r.p r.lo s.hi p lo);
      inner = rw n (sym (edge_same t s.n r.p s.p s.lo r.hi (omega arith) hi));
    }

-- of no parts every sum and end is 0
chain_mirrored : (s : ℕ) {top bottom : ℕ} {xs : List Part} → Chain top xs bottom → bottom ≤ s
    → Mirrored s (section_of xs) (section_of (mirror_onto s xs []))
unfolding section_of total lowest highest
chain_mirrored s (none below) h = record { n = refl; p = omega arith; inertia = refl; outer = refl; inner = refl }
chain_mirrored s (more {x = x} {xs = xs} after forward c) h =
    let parts = more {x = x} after forward c in
    mirrored_by s (section_of (x ∷ xs)) (section_of (mirror_onto s (x ∷ xs) [])) (omega (arith, n_onto s parts h []))
    (omega (arith, p_onto s parts h [])) (omega (arith, q_onto s parts h []))
    (omega (arith, lowest_onto s x xs [], highest_within parts)) (omega (arith, highest_onto s xs (mirror s x) [], chain_ends c))

-- THE LAWS

pub mirrored : (ls : List Lamella) → Mirrored (thickness ls) (section_of (counted 0 ls)) (section_of (counted 0 (reverse ls)))
unfolding counted_from
mirrored ls =
    rw (counted_onto (thickness ls) 0 0 (thickness ls) ls [] (omega arith) (omega arith))
    (chain_mirrored (thickness ls) (counted_chain 0 0 (thickness ls) ls (omega arith)) (omega arith))

-- of a panel and the same turned
pub turned_mirrored : (p : Panel) → Mirrored (thickness (lamellae p)) (section_at p 0) (section_at (turned p) 0)
turned_mirrored p =
    subst (λ (ls : List Lamella). Mirrored (thickness (lamellae p)) (section_at p 0) (section_of (counted 0 ls))) (sym (turned_lamellae p))
    (mirrored (lamellae p))

-- sections of which one is the other from the other face are tested alike
mirrored_alike : (factor moment strength t : ℕ) (s r : Section) → Mirrored t s r
    → carries factor moment strength r ≡ carries factor moment strength s
unfolding carries
mirrored_alike factor moment strength t s r m =
    let edges : edge r ≡ edge s = ap₂ max m.outer m.inner ∙ max_comm _ _ in
    rw (edges, m.inertia, m.n)

-- depth 0 passes from one face exactly when from the other
pub zero_turned : (p : Panel) → depth_passes (turned p) 0 ≡ depth_passes p 0
zero_turned p =
    mirrored_alike (factor_of (product_of p.bond)) p.moment p.strength (thickness (lamellae p)) (section_at p 0) (section_at (turned p) 0)
    (turned_mirrored p)

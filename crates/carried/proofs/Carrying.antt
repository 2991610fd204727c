-- The step gives the section a tenth of mm deeper, so that what is carried is the section at every depth. Assumes nothing.
use Prim.Native.Nat.{ℕ, zero, suc, ◌+◌, ◌-◌, ◌*◌, ◌≤◌, ◌<◌, max}
use mathlib.Core.Path.{◌≡◌, refl, ap, ◌∙◌}
use mathlib.Core.Bool.{Bool, true, false, ◌&&◌, and-false}
use mathlib.Core.List.{List, [], ◌∷◌}
use native.Mathlib.Numerals.{add-one}
use native.Mathlib.Omega.{arith}
use lib.Dec.{eqb, leb, ltb}
use borrow.Author.Tests.{ne_eqb, leb-true, leb-false, le-leb, lt-leb, ltb-true, ltb-false, lt-ltb, le-ltb}
use Rattle.numbers.specs.Choice.{pick}
use Rattle.numbers.proofs.Booleans.{and_left, and_right, not_both}
use Rattle.panel.specs.Lamellae.{Lamella, along, thickness}
use Rattle.section.specs.declared.Section.{Section}
use Rattle.section.specs.Sections.{Part, least_remainder, rest, counts, keep_if, counted_from, counted, total, lowest, highest, section_of}
use Rattle.carried.specs.Carried.{without, cuts_part, step, pick_cut, first_along, cut_from, carried}
use Rattle.carried.specs.Carrying.{EachThick, HoldsPart, StepFits}
use Rattle.section.proofs.Chains.{Chain, none, more, part, counted_ahead, counts_forward, counted_chain, highest_same}
use Rattle.numbers.proofs.Products.{square_rises, cube_rises}

-- What a tenth of mm does to the counted parts, where the lamella being cut ends at `end` and the next along one begins at `next`
pub data Cutting : ℕ → ℕ → List Part → List Part → Type 0 where
  -- at least 3.0 mm are left of the lamella: its part begins a tenth later
  moves : {depth end next bottom : ℕ} {xs : List Part} → least_remainder ≤ end - (depth + 1) → Chain end xs bottom
      → Cutting end next (part depth end ∷ xs) (part (depth + 1) end ∷ xs)
  -- less would be left of it: its part is dropped, and the next along one comes first
  drops : {depth end next bottom : ℕ} {xs : List Part} → least_remainder ≤ end - depth → end - (depth + 1) < least_remainder
      → next ≡ lowest xs → Chain end xs bottom → Cutting end next (part depth end ∷ xs) xs
  -- it is not counted: nothing changes
  stays : {end next bottom : ℕ} {xs : List Part} → Chain end xs bottom → Cutting end next xs xs

-- That there are no other cases

-- the next along one of lamellae that begin deeper is the first that is counted
first_counted : (depth top : ℕ) (ls : List Lamella) → depth ≤ top → EachThick ls → first_along top ls ≡ lowest (counted_from depth top ls)
unfolding first_along counted_from lowest
first_counted depth top [] h each = refl
first_counted depth top (l ∷ ls) h each = go (along l) refl (first_counted depth (top + l.thickness) ls (omega arith) each.1)
  where
    go :
        (b : Bool) → along l ≡ b
        → first_along (top + l.thickness) ls ≡ lowest (counted_from depth (top + l.thickness) ls)
        → pick b top (first_along (top + l.thickness) ls)
        ≡ lowest (keep_if (b && leb least_remainder ((rest depth top l).to - (rest depth top l).from)) (rest depth top l) (counted_from depth (top + l.thickness) ls))
    go true e deeper =
        let whole : least_remainder ≤ (rest depth top l).to - (rest depth top l).from = omega (arith, each.0) in
        rw (le-leb least_remainder ((rest depth top l).to - (rest depth top l).from) whole) (let z : top ≡ max depth top = omega arith in z)
    go false e deeper = deeper

-- a lamella that is passed does not count
counts_past : (depth top : ℕ) (l : Lamella) → top + l.thickness ≤ depth → counts depth top l ≡ false
counts_past depth top l h =
    rw (lt-leb least_remainder ((rest depth top l).to - (rest depth top l).from) (omega arith)) (and-false (along l))

-- the lamella that is cut, with the parts below it
inside :
    (depth end next bottom : ℕ) (b : Bool) (xs : List Part) → depth < end → next ≡ lowest xs → Chain end xs bottom
    → Cutting end next (keep_if (b && leb least_remainder (end - depth)) (part depth end) xs)
    (keep_if (b && leb least_remainder (end - (depth + 1))) (part (depth + 1) end) xs)
inside depth end next bottom false xs h e c = stays c
inside depth end next bottom true xs h e c =
    go (leb least_remainder (end - depth)) (leb least_remainder (end - (depth + 1))) refl refl
  where
    go :
        (now later : Bool) → leb least_remainder (end - depth) ≡ now → leb least_remainder (end - (depth + 1)) ≡ later
        → Cutting end next (keep_if now (part depth end) xs) (keep_if later (part (depth + 1) end) xs)
    go true true f g = moves (leb-true least_remainder (end - (depth + 1)) g) c
    go true false f g = drops (leb-true least_remainder (end - depth) f) (leb-false least_remainder (end - (depth + 1)) g) e c
    go false false f g = stays c
    go false true f g =
        let less = leb-false least_remainder (end - depth) f in
        let enough = leb-true least_remainder (end - (depth + 1)) g in
        absurd (let z : ⊥ = omega arith in z)

-- at any depth of any lamellae
pub cutting :
    (depth top : ℕ) (ls : List Lamella) → top ≤ depth → EachThick ls
    → Cutting (cut_from depth top ls).end (cut_from depth top ls).next (counted_from depth top ls) (counted_from (depth + 1) top ls)
unfolding cut_from counted_from
cutting depth top [] h each = stays (none {top = 0} {bottom = 0} (omega arith))
cutting depth top (l ∷ ls) h each =
    go (ltb depth (top + l.thickness)) refl (λ below. cutting depth (top + l.thickness) ls below each.1)
  where
    end : ℕ
    end = top + l.thickness

    go :
        (b : Bool) → ltb depth end ≡ b
        → (end ≤ depth
        → Cutting (cut_from depth end ls).end (cut_from depth end ls).next (counted_from depth end ls) (counted_from (depth + 1) end ls))
        → Cutting (pick_cut b (record { end = end; next = first_along end ls }) (cut_from depth end ls)).end
        (pick_cut b (record { end = end; next = first_along end ls }) (cut_from depth end ls)).next
        (keep_if (counts depth top l) (rest depth top l) (counted_from depth end ls))
        (keep_if (counts (depth + 1) top l) (rest (depth + 1) top l) (counted_from (depth + 1) end ls))
    go true e deeper =
        let above : depth < end = ltb-true depth end e in
        let here : max depth top ≡ depth = omega arith in
        let later : max (depth + 1) top ≡ depth + 1 = omega arith in
        rw (here, later, counted_ahead (depth + 1) depth end ls (omega arith) (omega arith))
        (inside depth end (first_along end ls) (end + thickness ls) (along l) (counted_from depth end ls) above
        (first_counted depth end ls (omega arith) each.1) (counted_chain depth end (end + thickness ls) ls (omega arith)))
    go false e deeper =
        let below = ltb-false depth end e in
        rw (counts_past depth top l below, counts_past (depth + 1) top l (omega arith)) (deeper below)

-- The step, case by case

-- when the lamella being cut is counted
pub cuts_when : (s : Section) (end : ℕ) → cuts_part s end ≡ true → (0 < s.n) × (s.lo < end)
cuts_when s end e = (
  ltb-true 0 s.n (and_left (ltb 0 s.n) (ltb s.lo end) e),
  ltb-true s.lo end (and_right (ltb 0 s.n) (ltb s.lo end) e),
)

-- where the sums have what lies from lo to the end, they have a tenth of it
pub holds_tenth : (s : Section) (end : ℕ) → HoldsPart s end → s.lo < end → HoldsPart s (s.lo + 1)
holds_tenth s end h cut =
    let squares = square_rises (s.lo + 1) end (omega arith) in
    let cubes = cube_rises (s.lo + 1) end (omega arith) in
    record { within = omega (arith, h.within); n = omega (arith, h.n); p = omega (arith, h.p); q = omega (arith, h.q) }

pub step_moves : (s : Section) (end next : ℕ) → 0 < s.n → s.lo < end → least_remainder ≤ end - (s.lo + 1)
    → step s end next ≡ without s (part s.lo (s.lo + 1)) (s.lo + 1)
unfolding step
step_moves s end next some cut enough = rw (lt-ltb 0 s.n some, lt-ltb s.lo end cut, le-leb least_remainder (end - (s.lo + 1)) enough)

pub step_drops : (s : Section) (end next : ℕ) → 0 < s.n → s.lo < end → end - (s.lo + 1) < least_remainder
    → step s end next ≡ without s (part s.lo end) next
unfolding step
step_drops s end next some cut less = rw (lt-ltb 0 s.n some, lt-ltb s.lo end cut, lt-leb least_remainder (end - (s.lo + 1)) less)

pub step_stays : (s : Section) (end next : ℕ) → cuts_part s end ≡ false → step s end next ≡ s
unfolding step
step_stays s end next e = rw e

-- the step leaves the sums alone where no part of the lamella being cut is counted
stays_uncut : {end bottom : ℕ} {xs : List Part} → Chain end xs bottom → cuts_part (section_of xs) end ≡ false
unfolding section_of total lowest
stays_uncut (none below) = refl
stays_uncut {end = end} (more {x = x} {xs = xs} after forward c) =
    rw (le-ltb x.from end after) (and-false (ltb 0 (x.to - x.from + total (λ (y : ℕ). y) xs)))

-- what the step asks of the sums is whether the lamella being cut is counted, and where it is, lo is the depth
pub cuts_counted :
    (depth top : ℕ) (l : Lamella) (ls : List Lamella) → top ≤ depth → depth < top + l.thickness
    → (cuts_part (section_of (counted_from depth top (l ∷ ls))) (top + l.thickness) ≡ counts depth top l)
    × (counts depth top l ≡ true → (section_of (counted_from depth top (l ∷ ls))).lo ≡ depth)
unfolding counted_from section_of total lowest
cuts_counted depth top l ls h inside = go (counts depth top l) refl
  where
    end : ℕ
    end = top + l.thickness

    below : List Part
    below = counted_from depth end ls

    go :
        (b : Bool) → counts depth top l ≡ b
        → (cuts_part (section_of (keep_if b (rest depth top l) below)) end ≡ b) × (b ≡ true → (section_of (keep_if b (rest depth top l) below)).lo ≡ depth)
    go true e = (
      rw (
        lt-ltb 0 ((rest depth top l).to - (rest depth top l).from + total (λ (x : ℕ). x) below) (omega (arith, counts_forward depth top l e)),
        lt-ltb (rest depth top l).from end (counts_forward depth top l e),
      ),
      λ _. let z : max depth top ≡ depth = omega arith in z,
    )
    go false e = (stays_uncut (counted_chain depth end (end + thickness ls) ls (omega arith)), λ f. absurd (not_both false f refl))

-- so where it lies across, the step changes nothing
pub across_stays :
    (depth top next : ℕ) (l : Lamella) (ls : List Lamella) → top ≤ depth → depth < top + l.thickness → along l ≡ false
    → step (section_of (counted_from depth top (l ∷ ls))) (top + l.thickness) next ≡ section_of (counted_from depth top (l ∷ ls))
across_stays depth top next l ls h inside across =
    step_stays (section_of (counted_from depth top (l ∷ ls))) (top + l.thickness) next
    ((cuts_counted depth top l ls h inside).0 ∙ ap (λ (b : Bool). b && leb least_remainder ((rest depth top l).to - (rest depth top l).from)) across)

-- The sums with the first part a tenth shorter

moved_section : (depth end : ℕ) (xs : List Part) → depth + 1 < end
    → without (section_of (part depth end ∷ xs)) (part depth (depth + 1)) (depth + 1) ≡ section_of (part (depth + 1) end ∷ xs)
unfolding without section_of total lowest
moved_section depth end xs h =
    λ i.
    record {
      n = shorter (λ (x : ℕ). x) (λ x y xy. xy) i;
      p = shorter (λ (x : ℕ). x * x) square_rises i;
      q = shorter (λ (x : ℕ). x * x * x) cube_rises i;
      lo = depth + 1;
      hi = hi i;
    }
  where
    shorter :
        (f : ℕ → ℕ) → ((x y : ℕ) → x ≤ y → f x ≤ f y)
        → f end - f depth + total f xs - (f (depth + 1) - f depth) ≡ f end - f (depth + 1) + total f xs
    shorter f rises = omega (arith, rises depth (depth + 1) (omega arith), rises (depth + 1) end (omega arith))

    hi :
        pick (eqb (end - depth + total (λ (x : ℕ). x) xs - (depth + 1 - depth)) 0) 0 (highest (part depth end ∷ xs))
        ≡ highest (part (depth + 1) end ∷ xs)
    hi =
        rw (ne_eqb (end - depth + total (λ (x : ℕ). x) xs - (depth + 1 - depth)) 0 (λ e. omega arith))
        (highest_same depth (depth + 1) end xs)

-- The sums without the first part

dropped_highest : (x : Part) {top bottom : ℕ} {xs : List Part} → Chain top xs bottom
    → pick (eqb (total (λ (y : ℕ). y) xs) 0) 0 (highest (x ∷ xs)) ≡ highest xs
unfolding total highest
dropped_highest x (none below) = refl
dropped_highest x (more {x = y} {xs = ys} after forward c) =
    rw (ne_eqb (y.to - y.from + total (λ (z : ℕ). z) ys) 0 (λ e. omega arith))

dropped_section : (depth end next : ℕ) {bottom : ℕ} {xs : List Part} → next ≡ lowest xs → Chain end xs bottom
    → without (section_of (part depth end ∷ xs)) (part depth end) next ≡ section_of xs
unfolding without section_of total
dropped_section depth end next {xs = xs} e c =
    λ i.
    record {
      n = taken (end - depth) (total (λ (x : ℕ). x) xs) i;
      p = taken (end * end - depth * depth) (total (λ (x : ℕ). x * x) xs) i;
      q = taken (end * end * end - depth * depth * depth) (total (λ (x : ℕ). x * x * x) xs) i;
      lo = e i;
      hi = hi i;
    }
  where
    taken : (a b : ℕ) → a + b - a ≡ b
    taken a b = omega arith

    hi : pick (eqb (end - depth + total (λ (x : ℕ). x) xs - (end - depth)) 0) 0 (highest (part depth end ∷ xs)) ≡ highest xs
    hi = rw (taken (end - depth) (total (λ (x : ℕ). x) xs)) (dropped_highest (part depth end) c)

-- THE LAWS

-- the step goes from the counted parts at a depth to those at the next
pub cutting_steps : {end next : ℕ} {xs ys : List Part} → Cutting end next xs ys → step (section_of xs) end next ≡ section_of ys
unfolding section_of total lowest
cutting_steps (moves {depth = depth} {end = end} {next = next} {xs = xs} enough c) =
    step_moves (section_of (part depth end ∷ xs)) end next (omega arith) (omega arith) enough ∙ moved_section depth end xs (omega arith)
cutting_steps (drops {depth = depth} {end = end} {next = next} {xs = xs} enough less e c) =
    step_drops (section_of (part depth end ∷ xs)) end next (omega arith) (omega arith) less ∙ dropped_section depth end next e c
cutting_steps (stays {end = end} {next = next} {xs = xs} c) = step_stays (section_of xs) end next (stays_uncut c)

-- and no difference in it is cut off at 0
pub cutting_fits : {end next : ℕ} {xs ys : List Part} → Cutting end next xs ys → end ≤ 4000 → StepFits (section_of xs) end
unfolding section_of total lowest
cutting_fits (moves enough c) h some cut = record { within = h; n = omega arith; p = omega arith; q = omega arith }
cutting_fits (drops enough less e c) h some cut = record { within = h; n = omega arith; p = omega arith; q = omega arith }
cutting_fits (stays (none below)) h some cut = absurd (let z : ⊥ = omega arith in z)
cutting_fits (stays (more after forward c)) h some cut = absurd (let z : ⊥ = omega arith in z)

-- where N stays, so does the section: each of the other two cases takes something of it
pub cutting_n_stays : {end next : ℕ} {xs ys : List Part} → Cutting end next xs ys → (section_of ys).n ≡ (section_of xs).n → section_of ys ≡ section_of xs
unfolding section_of total
cutting_n_stays (moves enough c) e = absurd (let z : ⊥ = omega arith in z)
cutting_n_stays (drops enough less e c) f = absurd (let z : ⊥ = omega arith in z)
cutting_n_stays (stays c) e = refl

pub n_stays : (depth : ℕ) (ls : List Lamella) → EachThick ls
    → (section_of (counted (depth + 1) ls)).n ≡ (section_of (counted depth ls)).n → section_of (counted (depth + 1) ls) ≡ section_of (counted depth ls)
n_stays depth ls each = cutting_n_stays (cutting depth 0 ls (omega arith) each)

-- one step from the section at any depth
pub step_deeper :
    (depth : ℕ) (ls : List Lamella) → EachThick ls
    → step (section_of (counted depth ls)) (cut_from depth 0 ls).end (cut_from depth 0 ls).next ≡ section_of (counted (depth + 1) ls)
step_deeper depth ls each = cutting_steps (cutting depth 0 ls (omega arith) each)

-- what is carried is the section, at every depth
pub carried_section : (ls : List Lamella) → EachThick ls → (depth : ℕ) → carried ls depth ≡ section_of (counted depth ls)
unfolding carried
carried_section ls each zero = refl
carried_section ls each (suc depth) =
    rw (carried_section ls each depth)
    (step_deeper depth ls each ∙ ap (λ (k : ℕ). section_of (counted k ls)) (add-one depth))

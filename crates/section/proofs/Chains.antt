-- The counted parts lie one below the other within the panel, and none is empty: hence the bounds on N, P, Q, lo and hi.
-- Assumes nothing.
use Prim.Native.Nat.{ℕ, ◌+◌, ◌-◌, ◌*◌, ◌≤◌, ◌<◌, max}
use mathlib.Core.Path.{◌≡◌, refl, ap}
use mathlib.Core.Bool.{Bool, true, false}
use mathlib.Core.List.{List, [], ◌∷◌}
use native.Mathlib.Nat.{le_trans}
use native.Mathlib.Omega.{arith}
use borrow.Author.Tests.{leb-true}
use Rattle.numbers.proofs.Booleans.{and_right}
use Rattle.panel.specs.Lamellae.{Lamella, along, thickness}
use Rattle.section.specs.Sections.{Part, least_remainder, rest, counts, keep_if, counted_from, counted, total, lowest, highest, section_of}
use Rattle.section.specs.Tests.{SectionBounds}
use Rattle.numbers.proofs.Products.{square_rises, cube_rises}

-- parts that lie one below the other between a top and a bottom, none of them empty
pub data Chain : ℕ → List Part → ℕ → Type 0 where
  none : {top bottom : ℕ} → top ≤ bottom → Chain top [] bottom
  more : {top bottom : ℕ} {x : Part} {xs : List Part} → top ≤ x.from → x.from < x.to → Chain x.to xs bottom → Chain top (x ∷ xs) bottom

-- a part from a to b
abbrev pub part : ℕ → ℕ → Part
part a b = record { from = a; to = b }

-- a chain from a top is one from any higher top
chain_from_higher : {top higher bottom : ℕ} {xs : List Part} → higher ≤ top → Chain top xs bottom → Chain higher xs bottom
chain_from_higher h (none below) = none (le_trans h below)
chain_from_higher h (more after forward c) = more (le_trans h after) forward c

-- a lamella that counts leaves a part that is not empty
pub counts_forward : (depth top : ℕ) (l : Lamella) → counts depth top l ≡ true → (rest depth top l).from < (rest depth top l).to
counts_forward depth top l e =
    let least = leb-true least_remainder ((rest depth top l).to - (rest depth top l).from) (and_right (along l) _ e) in
    omega arith

chain_keep_if : (depth top bottom : ℕ) (l : Lamella) (xs : List Part) (b : Bool) → counts depth top l ≡ b
    → Chain (top + l.thickness) xs bottom → Chain top (keep_if b (rest depth top l) xs) bottom
chain_keep_if depth top bottom l xs true e c =
    let after : top ≤ (rest depth top l).from = omega arith in
    more after (counts_forward depth top l e) c
chain_keep_if depth top bottom l xs false e c =
    let higher : top ≤ top + l.thickness = omega arith in
    chain_from_higher higher c

-- the counted parts of lamellae between a top and a bottom are a chain between them
pub counted_chain : (depth top bottom : ℕ) (ls : List Lamella) → top + thickness ls ≤ bottom → Chain top (counted_from depth top ls) bottom
unfolding counted_from thickness
counted_chain depth top bottom [] h = none {top = top} {bottom = bottom} (omega arith)
counted_chain depth top bottom (l ∷ ls) h =
    chain_keep_if depth top bottom l _ (counts depth top l) refl (counted_chain depth (top + l.thickness) bottom ls (omega arith))

-- lamellae that begin no sooner than either of two depths count at the one as at the other
pub counted_ahead : (a b top : ℕ) (ls : List Lamella) → a ≤ top → b ≤ top → counted_from a top ls ≡ counted_from b top ls
unfolding counted_from
counted_ahead a b top [] h k = refl
counted_ahead a b top (l ∷ ls) h k =
    let same : max a top ≡ max b top = omega arith in
    rw same (ap (keep_if (counts b top l) (rest b top l)) (counted_ahead a b (top + l.thickness) ls (omega arith) (omega arith)))

-- a chain's top is not below its bottom
pub chain_ends : {top bottom : ℕ} {xs : List Part} → Chain top xs bottom → top ≤ bottom
chain_ends (none below) = below
chain_ends (more after forward c) =
    let deeper = chain_ends c in
    omega arith

-- a chain's total of a rising f is at most f's rise from top to bottom
total_within : (f : ℕ → ℕ) → ((x y : ℕ) → x ≤ y → f x ≤ f y) → {top bottom : ℕ} {xs : List Part} → Chain top xs bottom
    → total f xs + f top ≤ f bottom
unfolding total
total_within f rises (none below) =
    let above = rises _ _ below in
    omega arith
total_within f rises (more {x = x} after forward c) =
    let above = rises _ _ after in
    let part : f x.from ≤ f x.to = rises _ _ (omega arith) in
    let deeper = total_within f rises c in
    omega arith

-- no end lies below the bottom
lowest_within : {top bottom : ℕ} {xs : List Part} → Chain top xs bottom → lowest xs ≤ bottom
unfolding lowest
lowest_within (none below) = omega arith
lowest_within (more {x = x} after forward c) =
    let deeper = chain_ends c in
    omega arith

pub highest_within : {top bottom : ℕ} {xs : List Part} → Chain top xs bottom → highest xs ≤ bottom
unfolding highest
highest_within (none below) = omega arith
highest_within (more after forward (none below)) = below
highest_within (more after forward (more after' forward' c)) = highest_within (more after' forward' c)

-- where the first part begins does not matter to the highest end
pub highest_same : (a b end : ℕ) (xs : List Part) → highest (part a end ∷ xs) ≡ highest (part b end ∷ xs)
unfolding highest
highest_same a b end [] = refl
highest_same a b end (x ∷ xs) = refl

-- the sums of a panel of at most 400.0 mm keep their bounds at every depth
pub counted_bounds : (depth : ℕ) (ls : List Lamella) → thickness ls ≤ 4000 → SectionBounds (section_of (counted depth ls))
unfolding section_of
counted_bounds depth ls h =
    let c = counted_chain depth 0 4000 ls (omega arith) in
    let n = total_within (λ (x : ℕ). x) (λ x y xy. xy) c in
    let p = total_within (λ (x : ℕ). x * x) square_rises c in
    let q = total_within (λ (x : ℕ). x * x * x) cube_rises c in
    record { n = omega arith; p = omega arith; q = omega arith; lo = lowest_within c; hi = highest_within c }

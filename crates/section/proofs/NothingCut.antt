-- No difference in the definition of the section test is ever cut off at 0, at any depth of any lamellae: those of the sums N, P
-- and Q, those of e, and 4NQ − 3P². Assumes nothing.
use Prim.Native.Nat.{ℕ, ◌-◌, ◌*◌, ◌≤◌}
use mathlib.Core.Path.{◌≡◌}
use mathlib.Core.List.{List, ◌∷◌, Memᴰ}
use mathlib.Core.Bool.{false}
use native.Mathlib.Omega.{arith}
use native.Mathlib.Nat.{mul-le-mul, le_refl}
use lib.Dec.{leb}
use borrow.Author.Tests.{lt-leb}
use Rattle.panel.specs.Lamellae.{Lamella, thickness}
use Rattle.section.specs.declared.Section.{Section}
use Rattle.section.specs.Sections.{Part, least_remainder, counted, total, lowest, highest, section_of}
use Rattle.section.specs.Tests.{SectionBounds}
use Rattle.section.specs.NothingCut.{Forward, NothingCut}
use Rattle.section.proofs.Chains.{Chain, none, more, chain_ends, counted_bounds, counted_chain}
use Rattle.section.proofs.Moments.{moments_add, moments_part, part_above, part_below, above_add, below_add}

-- a chain's parts run forward
chain_forward : {top bottom : ℕ} {xs : List Part} → Chain top xs bottom → (x : Part) → Memᴰ x xs → Forward x
chain_forward (more {x = y} after forward c) x (Memᴰ.head e) =
    let h : y.from ≤ y.to = omega arith in
    rw e record { n = h; p = mul-le-mul h h; q = mul-le-mul (mul-le-mul h h) h }
chain_forward (more after forward c) x (Memᴰ.tail m) = chain_forward c x m
chain_forward (none {top = top} {bottom = bottom} _) x x11 = elim x11 [ ]

-- 2N·t ≤ P where no part begins before t
total_above : (t : ℕ) {top bottom : ℕ} {xs : List Part} → Chain top xs bottom → t ≤ top
    → 2 * total (λ (x : ℕ). x) xs * t ≤ total (λ (x : ℕ). x * x) xs
unfolding total
total_above t (none below) h = omega arith
total_above t (more {x = x} {xs = xs} after forward c) h =
    let part = part_above t x.from x.to (omega arith) (omega arith) in
    let deeper = total_above t c (omega arith) in
    above_add _ _ _ _ t part deeper

-- P ≤ 2N·t where no part ends after t
total_below : (t : ℕ) {top bottom : ℕ} {xs : List Part} → Chain top xs bottom → bottom ≤ t
    → total (λ (x : ℕ). x * x) xs ≤ 2 * total (λ (x : ℕ). x) xs * t
unfolding total
total_below t (none below) h = omega arith
total_below t (more {x = x} {xs = xs} after forward c) h =
    let end = chain_ends c in
    let part = part_below t x.from x.to (omega arith) (omega arith) in
    let deeper = total_below t c h in
    below_add _ _ _ _ t part deeper

-- 3P² ≤ 4NQ
pub total_moments : {top bottom : ℕ} {xs : List Part} → Chain top xs bottom
    → 3 * total (λ (x : ℕ). x * x) xs * total (λ (x : ℕ). x * x) xs ≤ 4 * total (λ (x : ℕ). x) xs * total (λ (x : ℕ). x * x * x) xs
unfolding total
total_moments (none below) = omega arith
total_moments (more {x = x} after forward c) =
    moments_add _ _ _ _ _ _ (moments_part x.from x.to (omega arith)) (total_moments c)

chain_outer : {top bottom : ℕ} {xs : List Part} → Chain top xs bottom
    → 2 * total (λ (x : ℕ). x) xs * lowest xs ≤ total (λ (x : ℕ). x * x) xs
unfolding lowest
chain_outer (none below) = total_above 0 (none below) (omega arith)
chain_outer (more {x = x} after forward c) = total_above x.from (more (le_refl x.from) forward c) (le_refl x.from)

-- a chain of one part and more ends at its highest end
pub chain_highest : {top bottom : ℕ} {x : Part} {xs : List Part} → Chain top (x ∷ xs) bottom → Chain top (x ∷ xs) (highest (x ∷ xs))
unfolding highest
chain_highest (more {x = x} after forward (none below)) = more after forward (none (le_refl x.to))
chain_highest (more after forward (more after' forward' c)) = more after forward (chain_highest (more after' forward' c))

chain_inner : {top bottom : ℕ} {xs : List Part} → Chain top xs bottom
    → total (λ (x : ℕ). x * x) xs ≤ 2 * total (λ (x : ℕ). x) xs * highest xs
unfolding total
chain_inner (none below) = omega arith
chain_inner (more {x = x} {xs = xs} after forward c) =
    total_below (highest (x ∷ xs)) (chain_highest (more after forward c)) (le_refl (highest (x ∷ xs)))

-- every counted part runs forward
pub parts_forward : (depth : ℕ) (ls : List Lamella) (x : Part) → Memᴰ x (counted depth ls) → Forward x
parts_forward depth ls x m = chain_forward (counted_chain depth 0 (thickness ls) ls (omega arith)) x m

-- a remainder that would be cut off is not counted
pub cut_not_counted : (a b : ℕ) → b ≤ a → leb least_remainder (b - a) ≡ false
cut_not_counted a b h = lt-leb least_remainder (b - a) (omega arith)

-- THE LAW
pub nothing_cut : (depth : ℕ) (ls : List Lamella) → NothingCut (section_of (counted depth ls))
unfolding section_of
nothing_cut depth ls =
    let c = counted_chain depth 0 (thickness ls) ls (omega arith) in
    record { outer = chain_outer c; inner = chain_inner c; inertia = total_moments c }

-- so what remains at a depth of at most 400.0 mm keeps its bounds and can be tested
pub remains :
    (depth : ℕ) (ls : List Lamella) → thickness ls ≤ 4000 → {s : Section} → s ≡ section_of (counted depth ls) → SectionBounds s × NothingCut s
remains depth ls h e = (rw e (counted_bounds depth ls h), rw e (nothing_cut depth ls))

-- The sums lamella by lamella: with one more lamella at the deeper end they are those of the longer run. Assumes nothing.
use Prim.Native.Nat.{ℕ, suc, ◌+◌, ◌-◌, ◌*◌, ◌≤◌, ◌<◌}
use mathlib.Core.Path.{◌≡◌, refl, sym, ap, ◌∙◌}
use mathlib.Core.Bool.{Bool, true, false}
use mathlib.Core.List.{List, [], ◌∷◌, ◌++◌, append-nil}
use native.Mathlib.Numerals.{add-one}
use native.Mathlib.Omega.{arith}
use lib.ListN.{length, get_or, take}
use lib.Seq.{take-suc, take_all}
use lib.Dec.{eqb}
use borrow.Author.Tests.{ne_eqb}
use Rattle.numbers.specs.Choice.{pick}
use Rattle.panel.specs.Lamellae.{Lamella, lamella, thickness}
use Rattle.panel.proofs.Used.{thickness_next, thickness_parts}
use Rattle.section.specs.declared.Section.{Section}
use Rattle.section.specs.Sections.{Part, rest, counts, keep_if, counted_from, counted, total, lowest, highest, section_of}
use Rattle.section.specs.Growing.{with_part, with_lamella, pick_section}
use Rattle.section.proofs.Chains.{Chain, none, more, counted_chain}

keep_if_append : (b : Bool) (x : Part) (xs ys : List Part) → keep_if b x (xs ++ ys) ≡ keep_if b x xs ++ ys
keep_if_append true x xs ys = refl
keep_if_append false x xs ys = refl

-- the counted parts of two runs of lamellae, the second of which begins where the first ends
counted_append : (depth top next : ℕ) (ls ms : List Lamella) → next ≡ top + thickness ls
    → counted_from depth top (ls ++ ms) ≡ counted_from depth top ls ++ counted_from depth next ms
unfolding counted_from thickness
counted_append depth top next [] ms e =
    let here : next ≡ top = omega arith in
    ap (λ (t : ℕ). counted_from depth t ms) (sym here)
counted_append depth top next (l ∷ ls) ms e =
    ap (λ (xs : List Part). keep_if (counts depth top l) (rest depth top l) xs)
    (counted_append depth (top + l.thickness) next ls ms (omega arith))
    ∙ keep_if_append (counts depth top l) (rest depth top l) (counted_from depth (top + l.thickness) ls) (counted_from depth next ms)

total_last : (f : ℕ → ℕ) (xs : List Part) (x : Part) → total f (xs ++ (x ∷ [])) ≡ total f xs + (f x.to - f x.from)
unfolding total
total_last f [] x = omega arith
total_last f (y ∷ xs) x = omega (arith, total_last f xs x)

highest_last : (xs : List Part) (x : Part) → highest (xs ++ (x ∷ [])) ≡ x.to
unfolding highest
highest_last [] x = refl
highest_last (y ∷ []) x = refl
highest_last (y ∷ z ∷ xs) x = highest_last (z ∷ xs) x

-- the outer end changes only with the first part, and N tells whether a part is the first
lowest_last : {top bottom : ℕ} {xs : List Part} → Chain top xs bottom → (x : Part)
    → lowest (xs ++ (x ∷ [])) ≡ pick (eqb (total (λ (y : ℕ). y) xs) 0) x.from (lowest xs)
unfolding lowest total
lowest_last (none below) x = refl
lowest_last (more {x = y} {xs = ys} after forward c) x =
    rw (ne_eqb (y.to - y.from + total (λ (z : ℕ). z) ys) 0 (λ e. omega arith))

-- with one more part the sums are those of the longer list
section_last : {top bottom : ℕ} {xs : List Part} → Chain top xs bottom → (x : Part)
    → section_of (xs ++ (x ∷ [])) ≡ with_part (section_of xs) x
unfolding section_of with_part
section_last {xs = xs} c x =
    λ i.
    record {
      n = total_last (λ (y : ℕ). y) xs x i;
      p = total_last (λ (y : ℕ). y * y) xs x i;
      q = total_last (λ (y : ℕ). y * y * y) xs x i;
      lo = lowest_last c x i;
      hi = highest_last xs x i;
    }

section_keep_if : {top bottom : ℕ} {xs : List Part} → Chain top xs bottom → (b : Bool) (x : Part)
    → section_of (xs ++ keep_if b x []) ≡ pick_section b (with_part (section_of xs) x) (section_of xs)
section_keep_if c true x = section_last c x
section_keep_if {xs = xs} c false x = ap section_of (append-nil xs)

-- with one more lamella the sums are those of the longer run
pub section_more : (depth : ℕ) (ls : List Lamella) (l : Lamella)
    → section_of (counted depth (ls ++ (l ∷ []))) ≡ with_lamella depth (thickness ls) l (section_of (counted depth ls))
unfolding with_lamella counted_from
section_more depth ls l =
    ap section_of (counted_append depth 0 (thickness ls) ls (l ∷ []) (omega arith))
    ∙ section_keep_if (counted_chain depth 0 (thickness ls) ls (omega arith)) (counts depth (thickness ls) l) (rest depth (thickness ls) l)

-- a lamella that counts adds what is left of it, and another adds nothing
pub lamella_counts : (depth top : ℕ) (l : Lamella) (s : Section) → counts depth top l ≡ true
    → with_lamella depth top l s ≡ with_part s (rest depth top l)
unfolding with_lamella
lamella_counts depth top l s e = rw e

pub lamella_misses : (depth top : ℕ) (l : Lamella) (s : Section) → counts depth top l ≡ false → with_lamella depth top l s ≡ s
unfolding with_lamella
lamella_misses depth top l s e = rw e

-- the loop over lamellae: the sums of the first i, and where they end
pub record Summed (ls : List Lamella) (depth i : ℕ) (s : Section) (top : ℕ) : Type 0 where
  pub ends : top ≡ thickness (take i ls)
  pub sums : s ≡ section_of (counted depth (take i ls))

pub summed_start : (ls : List Lamella) (depth : ℕ) (s : Section) (top : ℕ) → s ≡ section_of [] → top ≡ 0 → Summed ls depth 0 s top
unfolding thickness counted_from
summed_start ls depth s top empty face = record { ends = face; sums = empty }

pub summed_more : (ls : List Lamella) (depth i : ℕ) (s r : Section) (top next : ℕ) (l : Lamella) → Summed ls depth i s top → i < length ls
    → get_or ls i (lamella 0 0) ≡ l → r ≡ with_lamella depth top l s → next ≡ top + l.thickness → Summed ls depth (i + 1) r next
summed_more ls depth i s r top next l now h here e d =
    let more = take-suc ls i (lamella 0 0) h ∙ ap (λ (x : Lamella). take i ls ++ (x ∷ [])) here in
    rw (add-one i)
    record {
      ends = omega (arith, now.ends, thickness_next ls i h, ap (λ (x : Lamella). x.thickness) here);
      sums =
          e
          ∙ rw (now.sums, now.ends) (sym (section_more depth (take i ls) l))
          ∙ ap (λ (ms : List Lamella). section_of (counted depth ms)) (sym more);
    }

-- within a panel of at most 400.0 mm the next lamella ends in time
pub summed_fits : (ls : List Lamella) (depth i : ℕ) (s : Section) (top : ℕ) (l : Lamella) → Summed ls depth i s top → i < length ls
    → get_or ls i (lamella 0 0) ≡ l → thickness ls ≤ 4000 → top + l.thickness ≤ 4000
summed_fits ls depth i s top l now h here fits =
    omega (arith, now.ends, thickness_next ls i h, thickness_parts ls (suc i), ap (λ (x : Lamella). x.thickness) here)

-- past the last they are those of all
pub summed_all : (ls : List Lamella) (depth i : ℕ) (s : Section) (top : ℕ) → Summed ls depth i s top → length ls ≤ i
    → s ≡ section_of (counted depth ls)
summed_all ls depth i s top now h = now.sums ∙ ap (λ (ms : List Lamella). section_of (counted depth ms)) (take_all i ls h)

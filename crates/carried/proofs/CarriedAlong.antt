-- The section carried along a run of lamellae: what the step is given there, and that each function hands on what is carried to a depth.
-- Assumes nothing.
use Prim.Native.Nat.{ℕ, zero, suc, ◌+◌, ◌-◌, ◌≤◌, ◌<◌}
use mathlib.Core.Path.{◌≡◌, refl, sym, ap, subst, ◌∙◌}
use mathlib.Core.List.{List, [], ◌∷◌}
use native.Mathlib.Numerals.{add-one}
use native.Mathlib.Omega.{arith}
use lib.ListN.{length, get_or, take, drop}
use lib.Seq.{drop-cons, take_all}
use borrow.Author.Tests.{le-ltb, lt-ltb}
use Rattle.std.specs.Prelude.{Option, unwrap_or}
use Rattle.panel.specs.Lamellae.{Lamella, lamella, thickness}
use Rattle.panel.specs.Lent.{lamellae_in}
use Rattle.panel.proofs.Used.{thickness_next, thickness_parts}
use Rattle.section.specs.declared.Section.{Section}
use Rattle.carried.specs.declared.carry.Carried.{Carried}
use Rattle.section.specs.Sections.{least_remainder, counted, section_of}
use Rattle.carried.specs.Carried.{step, CutLamella, first_along, cut_from}
use Rattle.carried.specs.Carrying.{EachThick, StepFits}
use Rattle.carried.proofs.Carrying.{cutting, cutting_fits, step_deeper}
use Rattle.carried.proofs.NextAlong.{next_is_first}

-- lamella i of a run
abbrev pub nth : List Lamella → ℕ → Lamella
nth ls i = get_or ls i (lamella 0 0)

each_drop : (i : ℕ) (ls : List Lamella) → EachThick ls → EachThick (drop i ls)
each_drop zero ls each = each
each_drop (suc i) [] each = each
each_drop (suc i) (l ∷ ls) each = each_drop i ls each.1

each_at : (ls : List Lamella) (i : ℕ) → i < length ls → EachThick ls → least_remainder ≤ (nth ls i).thickness
each_at ls i h each = (subst EachThick (drop-cons ls i (lamella 0 0) h) (each_drop i ls each)).0

-- a lamella that is passed is not cut
passed : (depth top : ℕ) (l : Lamella) (ls : List Lamella) → top + l.thickness ≤ depth
    → cut_from depth top (l ∷ ls) ≡ cut_from depth (top + l.thickness) ls
unfolding cut_from
passed depth top l ls below = rw (le-ltb depth (top + l.thickness) below)

-- at a depth past the first lamellae the cut is among those that follow
cut_past :
    (ls : List Lamella) (i depth : ℕ) → i ≤ length ls → thickness (take i ls) ≤ depth
    → cut_from depth 0 ls ≡ cut_from depth (thickness (take i ls)) (drop i ls)
unfolding thickness
cut_past ls zero depth h past = refl
cut_past ls (suc i) depth h past =
    let top = thickness (take i ls) in
    let below : top + (nth ls i).thickness ≤ depth = omega (arith, thickness_next ls i h) in
    cut_past ls i depth (omega arith) (omega arith)
    ∙ ap (cut_from depth top) (drop-cons ls i (lamella 0 0) h)
    ∙ passed depth top (nth ls i) (drop (suc i) ls) below
    ∙ ap (λ (t : ℕ). cut_from depth t (drop (suc i) ls)) (sym (thickness_next ls i h))

-- within lamella i the cut is its own
cut_within :
    (ls : List Lamella) (i depth end next : ℕ) → i < length ls → thickness (take i ls) ≤ depth → depth < end
    → end ≡ thickness (take i ls) + (nth ls i).thickness → next ≡ first_along end (drop (i + 1) ls)
    → cut_from depth 0 ls ≡ record { end = end; next = next }
unfolding cut_from
cut_within ls i depth end next h past inside e f =
    cut_past ls i depth (omega arith) past
    ∙ ap (cut_from depth (thickness (take i ls))) (drop-cons ls i (lamella 0 0) h)
    ∙ rw (f, add-one i, e, lt-ltb depth (thickness (take i ls) + (nth ls i).thickness) (omega arith))

-- the lamellae along which it is carried
abbrev pub along_which : Carried → List Lamella
along_which c = lamellae_in c.lamellae

module _ (c : Carried) where
  -- where all lamellae are begun and passed, the depth is their thickness
  pub all_passed : length (along_which c) ≤ c.place → c.end ≤ c.depth → c.depth ≡ thickness (along_which c)
  all_passed all past =
      let reached : c.depth ≡ c.end = omega (arith, c.to) in
      reached ∙ c.ends ∙ ap thickness (take_all c.place (along_which c) all)

  -- another that follows
  module _ (thick : ℕ) (there : c.place < length (along_which c)) (e : thick ≡ (nth (along_which c) c.place).thickness) where
    -- ends where its thickness says
    pub next_ends : c.end + thick ≡ thickness (take (c.place + 1) (along_which c))
    next_ends = rw (add-one c.place) (omega (arith, c.ends, e, thickness_next (along_which c) c.place there))

    -- within the panel, as those behind it do
    pub next_fits : c.end + thick + thickness (drop (c.place + 1) (along_which c)) ≤ 4000
    next_fits = omega (arith, next_ends, c.short, thickness_parts (along_which c) (c.place + 1))

    -- past where it begins
    pub next_past : c.end < c.end + thick
    next_past = omega (arith, e, each_at (along_which c) c.place there c.each)

  -- the lamella that is cut from its depth on ends at `end`, and the next along one begins at `next`
  cut_there :
      (depth place : ℕ) → place ≤ length (along_which c) → c.end ≡ thickness (take place (along_which c))
      → thickness (take (place - 1) (along_which c)) ≤ depth → depth < c.end
      → cut_from depth 0 (along_which c) ≡ record { end = c.end; next = first_along c.end (drop place (along_which c)) }
  unfolding thickness
  cut_there depth zero begun ends from inside = absurd (let z : ⊥ = omega arith in z)
  cut_there depth (suc i) begun ends from inside =
      let before : suc i - 1 ≡ i = omega arith in
      cut_within (along_which c) i depth c.end (first_along c.end (drop (suc i) (along_which c))) (omega arith) (rw before at from) inside
      (ends ∙ thickness_next (along_which c) i (omega arith))
      (ap (λ (k : ℕ). first_along c.end (drop k (along_which c))) (sym (add-one i)))

  -- so the step is given the same from there to the end of the last lamella begun
  pub given :
      (depth : ℕ) → c.depth ≤ depth → depth < c.end
      → cut_from depth 0 (along_which c) ≡ record { end = c.end; next = unwrap_or c.next 0 }
  given depth deep inside =
      let next = next_is_first c.end (drop c.place (along_which c)) ∙ ap (λ (o : Option ℕ). unwrap_or o 0) (sym (c.after (omega arith))) in
      cut_there depth c.place c.begun c.ends (omega (arith, c.from)) inside ∙ (λ i. record { end = c.end; next = next i })

  -- one step gives the section a tenth of mm deeper
  pub one_deeper : (s : Section) → c.depth < c.end → s ≡ step c.section c.end (unwrap_or c.next 0)
      → s ≡ section_of (counted (c.depth + 1) (along_which c))
  one_deeper s inside e =
      e
      ∙ (λ i. step (c.carried i) (sym (given c.depth (omega arith) inside) i).end (sym (given c.depth (omega arith) inside) i).next)
      ∙ step_deeper c.depth (along_which c) c.each

  -- and its differences are not cut off
  pub step_fits : c.depth < c.end → StepFits c.section c.end
  step_fits inside =
      let end : (cut_from c.depth 0 (along_which c)).end ≡ c.end = ap (λ (x : CutLamella). x.end) (given c.depth (omega arith) inside) in
      rw (c.carried, ← end)
      (cutting_fits (cutting c.depth 0 (along_which c) (omega arith) c.each)
      (omega (arith, c.ends, c.short, thickness_parts (along_which c) c.place)))

-- `section::sums::Sums::with_lamella` meets its contract: only a lamella along of which enough is left can count, and a part that counts ends
-- within the panel. Assumes nothing.
use Prim.Native.Nat.{ℕ, ◌+◌, ◌-◌, max}
use mathlib.Core.Bool.{Bool, true, false, ◌&&◌, and-false}
use mathlib.Core.Path.{◌≡◌, sym, ap, ap₂, ◌∙◌}
use borrow.Author.Tests.{eq-eqb, ne_eqb}
use lib.Dec.{eqb, leb}
use Rattle.panel.specs.Lamellae.{lamella}
use Rattle.section.specs.Sections.{least_remainder, counts}
use Rattle.section.proofs.Growing.{lamella_counts, lamella_misses}
use Rattle.section.proofs.sums.Sums.with_lamella.Goals as goal
use Rattle.section.proofs.sums.Sums.with_lamella.Goals.{then-direction-eq1+else-is_enough, else-direction-eq1}

-- the two tests are that of a lamella
tested : (depth top direction thick end begin : ℕ) (enough : Bool) → end ≡ top + thick → begin ≡ max depth top
    → enough ≡ leb least_remainder (end - begin) → counts depth top (lamella direction thick) ≡ (eqb direction 1 && enough)
tested depth top direction thick end begin enough ends begins e =
    sym (ap (λ (b : Bool). eqb direction 1 && b) (e ∙ ap₂ (λ (x y : ℕ). leb least_remainder (x - y)) ends begins))

pub returns-then-is_enough : goal.returns-then-is_enough
returns-then-is_enough c =
    let a = c.args in
    let s = a.self in
    let l = lamella a.direction a.thick in
    let ends = ap (λ (x : ℕ). s.end + x) c.from.ensures in
    let begins = c.max-from.ensures ∙ ap (λ (x : ℕ). max x s.end) c.from-then-direction-eq1.ensures in
    let counts : counts a.depth s.end l ≡ true =
    tested a.depth s.end a.direction a.thick _ _ c.is_enough.result ends begins c.is_enough.ensures
    ∙ ap₂ (λ (d e : Bool). d && e) (eq-eqb a.direction 1 c.if-direction-eq1.true) c.if-is_enough.true in
    (rw (lamella_counts a.depth s.end l s.section counts, ← begins, ← ends) c.with_part.ensures.0, c.with_part.ensures.1 ∙ ends)

pub returns : goal.returns
returns c =
    let a = c.args in
    let s = a.self in
    let l = lamella a.direction a.thick in
    let ends = ap (λ (x : ℕ). s.end + x) c.from.ensures in
    let misses : counts a.depth s.end l ≡ false =
    elim c.if-direction-eq1.branch [
      | then-direction-eq1+else-is_enough w ↦
          let begins = w.max-from.ensures ∙ ap (λ (x : ℕ). max x s.end) w.from-then-direction-eq1.ensures in
          tested a.depth s.end a.direction a.thick _ _ w.is_enough.result ends begins w.is_enough.ensures
          ∙ rw w.if-is_enough.false (and-false (eqb a.direction 1))
      | else-direction-eq1 w ↦ rw (ne_eqb a.direction 1 w.if-direction-eq1.false)
    ] in
    (sym (lamella_misses a.depth s.end l s.section misses), ends)

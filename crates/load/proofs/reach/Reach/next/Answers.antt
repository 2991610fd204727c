-- `load::reach::Reach::next` meets its contract: a single depth decides, and a range passes by its two ends. Assumes nothing.
use Prim.Native.Nat.{ℕ, ◌<◌, ◌≤◌}
use mathlib.Core.Bool.{Bool}
use mathlib.Core.Logic.{⊎_elim}
use mathlib.Core.Path.{◌≡◌, sym, ap, ◌∙◌}
use native.Mathlib.Nat.{eq-or-lt_of_le}
use native.Mathlib.Omega.{arith}
use Rattle.panel.specs.Lent.{lamellae_in}
use Rattle.section.proofs.Shrinking.{between_carries}
use Rattle.section.specs.Between.{carries_between}
use Rattle.load.specs.Reach.{carries_with, passes_with}
use Rattle.load.specs.declared.reach.Reach.{Reach}
use Rattle.load.proofs.EveryDepth.{each_through, one_fails}
use Rattle.load.proofs.reach.Reach.next.Goals as goal

-- a depth of the lamellae that a reach has
abbrev passes : Reach → ℕ → Bool
passes r = passes_with r.design (lamellae_in r.lamellae)

pub returns-then-not-section_passes : goal.returns-then-not-section_passes
returns-then-not-section_passes c =
    let r = c.args.self in
    let v = r.design in
    let to = c.min-to.result in
    let within : to ≤ r.last = omega (arith, c.min-to.ensures) in
    one_fails (passes r) r.reached r.last r.within to (omega (arith, c.if-to-self.true)) within
    (sym (c.section_passes.ensures ∙ ap (carries_with v) c.section_in-deep.ensures) ∙ c.if-not-section_passes.true)

pub reaching-requires-clause-pass : goal.reaching-requires-clause-pass
reaching-requires-clause-pass c =
    let r = c.args.self in
    let v = r.design in
    let to = c.min-to.result in
    let here = sym (c.section_passes.ensures ∙ ap (carries_with v) c.section_in-deep.ensures) ∙ c.if-not-section_passes.false in
    each_through (passes r) r.reached to (omega arith)
    (λ d l u.
    ⊎_elim (λ (same : r.reached ≡ d). ap (passes r) (sym same) ∙ sym (ap (carries_with v) r.here) ∙ r.passes)
    (λ (less : r.reached < d). ap (passes r) (let e : d ≡ to = omega (arith, c.if-to-self.true) in e) ∙ here)
    (eq-or-lt_of_le l))

pub reaching-requires-then-sections_pass-clause-pass : goal.reaching-requires-then-sections_pass-clause-pass
reaching-requires-then-sections_pass-clause-pass c =
    let r = c.args.self in
    let v = r.design in
    let ls = lamellae_in r.lamellae in
    let to = c.min-to.result in
    let ends = sym
    (c.sections_pass.ensures ∙ λ i. carries_between v.factor v.moment v.strength (r.here i) (c.section_in-deep.ensures i))
    ∙ c.if-sections_pass.true in
    each_through (passes r) r.reached to (omega (arith, c.min-to.ensures, c.requires))
    (λ d l u. between_carries v.factor v.moment v.strength r.reached d to ls l u ends)

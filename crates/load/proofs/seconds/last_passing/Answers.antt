-- `load::seconds::last_passing` meets its contract: every depth to the present one passes, and the first that does not decides.
use Prim.Native.Nat.{ℕ, ◌+◌, ◌<◌}
use Rattle.refusals.proofs.PanelTable.{accepted_passes}
use Rattle.carried.proofs.EitherFire.{accepted_lamellae}
use Rattle.load.proofs.LastPassing.{last_found}
use Rattle.load.specs.LastPassing.{last_passing}
use Rattle.load.specs.LoadMinute.{every_from}
use Rattle.load.specs.Reach.{carries_with, passes_with}
use Rattle.numbers.specs.Largest.{largest}
use Rattle.panel.specs.Lamellae.{Lamella, thickness}
use Rattle.panel.specs.Lent.{lamellae_in}
use Rattle.carried.proofs.Carrying.{n_stays}
use Rattle.carried.specs.Carrying.{EachThick}
use Rattle.section.specs.Sections.{counted, section_of}
use Rattle.section.specs.Tests.{carries}
use Rattle.section.specs.declared.Section.{Section}
use Rattle.carried.specs.declared.carry.Carried.{Carried}
use Rattle.section.specs.declared.test.DesignValues.{DesignValues}
use mathlib.Core.Bool.{true, false}
use mathlib.Core.List.{List}
use mathlib.Core.Logic.{⊎_elim}
use mathlib.Core.Path.{◌≡◌, refl, sym, ap, subst, ◌∙◌}
use native.Mathlib.Nat.{eq-or-lt_of_le, le_refl}
use native.Mathlib.Omega.{arith}
use Rattle.load.proofs.seconds.last_passing.Invariants.{Passing}
use Rattle.load.proofs.seconds.last_passing.Goals as goal
use Rattle.load.proofs.seconds.last_passing.Goals.{After-deeper, After-section_passes, In-Some}

-- what is carried is the section
here : (ls : List Lamella) (c : Carried) → lamellae_in c.lamellae ≡ ls → c.section ≡ section_of (counted c.depth ls)
here ls c along = c.carried ∙ ap (λ (xs : List Lamella). section_of (counted c.depth xs)) along

module _ (v : DesignValues) (ls : List Lamella) (c next : Carried) (at : Passing v ls c) (along : lamellae_in next.lamellae ≡ ls) (one : next.depth ≡ c.depth + 1) where
  -- one depth more
  further : passes_with v ls next.depth ≡ true → Passing v ls next
  further passes =
      record {
        along = along;
        every = λ d u.
            ⊎_elim (λ (same : d ≡ next.depth). ap (passes_with v ls) same ∙ passes) (λ (less : d < next.depth). at.every d (omega arith))
            (eq-or-lt_of_le u);
      }

  -- where N stays it passes as the one before does
  passes_still : next.section.n ≡ c.section.n → passes_with v ls next.depth ≡ true
  passes_still n =
      let there : next.section ≡ section_of (counted (c.depth + 1) ls) = here ls next along ∙ ap (λ (d : ℕ). section_of (counted d ls)) one in
      let same = n_stays c.depth ls (subst EachThick at.along c.each) (sym (ap (λ (s : Section). s.n) there) ∙ n ∙ ap (λ (s : Section). s.n) (here ls c at.along)) in
      ap (passes_with v ls) one ∙ ap (carries_with v) same ∙ at.every c.depth (le_refl c.depth)

later : (c : In-Some) → lamellae_in c.in-Some.next.lamellae ≡ lamellae_in c.start-c.result.lamellae
later c = c.in-Some.ensures.along.0 ∙ c.loop-next.invariant.along

judged : (c : After-section_passes) → lamellae_in c.in-Some.next.lamellae ≡ lamellae_in c.start-c.result.lamellae
    → c.section_passes.result ≡ passes_with c.of-design.result (lamellae_in c.start-c.result.lamellae) c.in-Some.next.depth
judged c along =
    c.section_passes.ensures ∙ ap (carries_with c.of-design.result) (c.remaining.ensures ∙ here (lamellae_in c.start-c.result.lamellae) c.in-Some.next along)

-- the last depth that passes, with the panel's own values and lamellae
answer : (c : After-deeper)
    → (c.loop-next.c.depth < thickness (lamellae_in c.start-c.result.lamellae)
    → passes_with c.of-design.result (lamellae_in c.start-c.result.lamellae) (c.loop-next.c.depth + 1) ≡ false)
    → c.loop-next.c.depth ≡ last_passing c.args.accepted
unfolding last_passing
answer c next =
    let v = c.of-design.ensures in
    let own = c.start-c.ensures.along.0 ∙ c.lamellae.ensures in
    let at = c.loop-next.invariant in
    last_found (passes_with c.of-design.result (lamellae_in c.start-c.result.lamellae)) (thickness (lamellae_in c.start-c.result.lamellae))
    c.loop-next.c.depth (omega (arith, c.loop-next.c.within, ap thickness at.along)) at.every next
    ∙ (λ i.
    largest
    (λ (depth : ℕ).
    every_from (λ (d : ℕ). carries (v.factor i) (v.moment i) (v.strength i) (section_of (counted d (own i)))) 0 depth)
    (thickness (own i)))
    ∙ ap last_passing c.panel-p.ensures.panel

pub start-c-requires : goal.start-c-requires
start-c-requires c = rw c.lamellae.ensures (accepted_lamellae c.panel-p.result c.panel-p.ensures.accepted)

pub loop-next-init : goal.loop-next-init
loop-next-init c =
    let v = c.of-design.ensures in
    let own = c.start-c.ensures.along.0 ∙ c.lamellae.ensures in
    record {
      along = refl;
      every = λ d u.
          ap (passes_with c.of-design.result (lamellae_in c.start-c.result.lamellae)) (let z : d ≡ 0 = omega arith in z)
          ∙ (λ i. carries (v.factor i) (v.moment i) (v.strength i) (section_of (counted 0 (own i))))
          ∙ accepted_passes c.panel-p.result c.panel-p.ensures.accepted;
    }

pub returns-then-not-section_passes : goal.returns-then-not-section_passes
returns-then-not-section_passes c =
    let at = goal.at.returns-then-not-section_passes c in
    answer at.After-deeper
    (λ _.
    ap (passes_with c.of-design.result (lamellae_in c.start-c.result.lamellae)) (sym c.in-Some.ensures.along.1)
    ∙ sym (judged at.After-section_passes (later at.In-Some))
    ∙ c.if-not-section_passes.true)

pub loop-next-preserved-else-not-section_passes : goal.loop-next-preserved-else-not-section_passes
loop-next-preserved-else-not-section_passes c =
    let at = goal.at.loop-next-preserved-else-not-section_passes c in
    let along = later at.In-Some in
    further c.of-design.result _ c.loop-next.c c.in-Some.next c.loop-next.invariant along c.in-Some.ensures.along.1
    (sym (judged at.After-section_passes along) ∙ c.if-not-section_passes.false)

pub loop-next-preserved : goal.loop-next-preserved
loop-next-preserved c =
    let along = later (goal.at.loop-next-preserved c).In-Some in
    let v = c.of-design.result in
    let i = c.loop-next.invariant in
    further v _ c.loop-next.c c.in-Some.next i along c.in-Some.ensures.along.1
    (passes_still v _ c.loop-next.c c.in-Some.next i along c.in-Some.ensures.along.1 c.if-next-c.false)

pub returns : goal.returns
returns c =
    answer (goal.at.returns c).After-deeper
    (λ less. absurd (let z : ⊥ = omega (arith, c.in_default.ensures.along, ap thickness c.loop-next.invariant.along) in z))

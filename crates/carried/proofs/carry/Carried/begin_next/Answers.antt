-- `carried::carry::Carried::begin_next` meets its contract: the next lamella ends where its thickness says. Assumes nothing.
use Prim.Native.Nat.{◌+◌, ◌-◌, ◌<◌, ◌≤◌}
use mathlib.Core.Path.{◌≡◌, refl, sym, ap, ◌∙◌}
use native.Mathlib.Omega.{arith}
use lib.ListN.{length, drop}
use borrow.Author.Tests.{ltb-true, ltb-false}
use Rattle.std.proofs.lemmas.Grind.{get_or_default_zero}
use Rattle.panel.proofs.Lent.{length_in}
use Rattle.panel.specs.Lamellae.{Lamella, thickness}
use Rattle.panel.proofs.Used.{get_or_lamellae_of}
use Rattle.carried.specs.Carrying.{next_along}
use Rattle.carried.proofs.CarriedAlong.{nth, along_which, all_passed, next_ends, next_fits, next_past}
use Rattle.carried.proofs.carry.Carried.begin_next.Goals as goal
use Rattle.carried.proofs.carry.Carried.begin_next.Goals.{After-from}

pub returns-in_err-thick : goal.returns-in_err-thick
returns-in_err-thick c =
    let here = c.args.self in
    let l = here.lamellae in
    let all : length (along_which here) ≤ here.place =
    omega (arith, ltb-false _ _ (sym c.in_err-thick.ensures.lookup.0), l.aligned, length_in l) in
    rw c.from_residual.ensures (all_passed here all c.requires)

-- another lamella follows
there : (c : After-from) → c.args.self.place < length (along_which c.args.self)
there c =
    let l = c.args.self.lamellae in
    omega (arith, ltb-true _ _ (sym c.in_ok-thick.ensures.lookup.0), l.aligned, length_in l)

thick : (c : After-from) → c.from.result ≡ (nth (along_which c.args.self) c.args.self.place).thickness
thick c =
    let here = c.args.self in
    let l = here.lamellae in
    let gs = l.directions.now in
    c.from.ensures
    ∙ c.in_ok-thick.ensures.lookup.1
    ∙ get_or_default_zero l.thicknesses.now here.place _ (ltb-true _ _ (sym c.in_ok-thick.ensures.lookup.0))
    ∙ sym
    (ap (λ (x : Lamella). x.thickness)
    (get_or_lamellae_of gs l.thicknesses.now (length gs) here.place (omega (arith, ltb-true _ _ (sym c.in_ok-thick.ensures.lookup.0), l.aligned))))

within : (c : After-from) → c.args.self.end + c.from.result + thickness (drop (c.args.self.place + 1) (along_which c.args.self)) ≤ 4000
within c = next_fits c.args.self c.from.result (there c) (thick c)

pub overflow_add-begun-2 : goal.overflow_add-begun-2
overflow_add-begun-2 c = omega (arith, within (goal.at.overflow_add-begun-2 c).After-from)

pub next_along-begun-requires : goal.next_along-begun-requires
next_along-begun-requires c = rw c.starting_at.ensures (within (goal.at.next_along-begun-requires c).After-from)

pub invariant_of-begun : goal.invariant_of-begun
invariant_of-begun c =
    let here = c.args.self in
    let now = (goal.at.invariant_of-begun c).After-from in
    let same : here.place + 1 - 1 ≡ here.place = omega arith in
    record {
      short = here.short;
      each = here.each;
      carried = here.carried;
      within = here.within;
      begun = omega (arith, there now);
      ends = next_ends here c.from.result (there now) (thick now);
      from = rw same (omega (arith, here.ends, c.requires));
      to = omega (arith, here.to);
      after = λ _. c.next_along-begun.ensures ∙ ap (next_along (here.end + c.from.result)) c.starting_at.ensures;
    }

pub returns : goal.returns
returns c =
    let now = (goal.at.returns c).After-from in
    (refl, (refl, omega (arith, c.args.self.to, next_past c.args.self c.from.result (there now) (thick now))))

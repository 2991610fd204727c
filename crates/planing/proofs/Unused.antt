-- Unused places do not matter: panels that differ at most there get the same answer.
use Prim.Native.Nat.{ℕ, suc, ◌+◌}
use mathlib.Core.Path.{◌≡◌, refl, ap₂}
use mathlib.Core.Bool.{◌&&◌}
use lib.Dec.{leb, ltb}
use Rattle.numbers.specs.Least.{least}
use Rattle.panel.specs.declared.Panel.{Panel}
use Rattle.panel.specs.Lamellae.{with_lamellae, cleared, SameUsed}
use Rattle.panel.proofs.Used.{lamellae_cleared, count_cleared, cleared_same, unused}
use Rattle.refusals.specs.Lines.{unless_refused}
use Rattle.refusals.proofs.Unused.{refusal_unused}
use Rattle.layers.proofs.Unused.{printed_ei_same}
use Rattle.grades.specs.Grades.{rei_of}
use Rattle.load.proofs.Unused.{printed_load_same}
use Rattle.ratings.specs.Answers.{rei_grade}
use Rattle.planing.specs.declared.Cut.{Cut}
use Rattle.planing.specs.Cuts.{thickness_at, thinned, least_kept, lowered}
use Rattle.planing.specs.Answers.{place_on, lowering, first_behind, most_cut, least_tenths, planing_if, planing_of, planing_answer}

rei_same : (p q : Panel) → SameUsed p q → rei_grade p ≡ rei_grade q
rei_same p q h = ap₂ rei_of (printed_load_same p q h) (printed_ei_same p q h)

-- so a panel that differs from the cut one at most there does as well
pub lowered_same : (minutes : ℕ) (p q : Panel) → SameUsed p q → lowered minutes p ≡ lowered minutes q
lowered_same minutes p q h = rw (refusal_unused p q h, printed_load_same p q h, printed_ei_same p q h) refl

lowering_cleared : (p : Panel) (c : Cut) → lowering (cleared p) c ≡ lowering p c
lowering_cleared p c =
    λ i.
    let ls = lamellae_cleared p i in
    ltb 0 c.tenths
    && leb (least_kept + c.tenths) (thickness_at c.place ls)
    && lowered (rei_same (cleared p) p (cleared_same p) i).minutes (with_lamellae p (thinned c.place c.tenths ls))

first_cleared : (p : Panel) (tenths : ℕ) → first_behind (cleared p) tenths ≡ first_behind p tenths
unfolding first_behind
first_cleared p tenths =
    λ i.
    let count = count_cleared p i in
    least (λ (behind : ℕ). lowering_cleared p (record { place = place_on p.face count behind; tenths = tenths }) i) count

least_cleared : (p : Panel) → least_tenths (cleared p) ≡ least_tenths p
unfolding least_tenths
least_cleared p = λ i. least (λ (tenths : ℕ). ltb (first_cleared p tenths i) (count_cleared p i)) (suc most_cut)

planing_cleared : (p : Panel) → planing_of (cleared p) ≡ planing_of p
unfolding planing_of
planing_cleared p =
    λ i.
    let tenths = least_cleared p i in
    planing_if (ltb tenths (suc most_cut))
    (record { place = place_on p.face (count_cleared p i) (first_cleared p tenths i); tenths = tenths })

pub planing_unused : (p q : Panel) → SameUsed p q → planing_answer p ≡ planing_answer q
unfolding planing_answer
planing_unused = unused planing_answer (λ p i. unless_refused (refusal_unused (cleared p) p (cleared_same p) i) (planing_cleared p i))

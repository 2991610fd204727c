-- `load::seconds::fire_seconds` meets its contract: the last depth that passes decides for each second, and earlier ones pass too. Assumes nothing.
use Prim.Native.Nat.{ℕ}
use Rattle.charring.proofs.Accepted.{fire_fits}
use Rattle.charring.specs.Depths.{tenths_at}
use Rattle.refusals.proofs.PanelTable.{accepted_passes}
use Rattle.load.proofs.LastPassing.{time_by_depth}
use Rattle.load.proofs.LoadMinutes.{test_zero, test_earlier}
use Rattle.load.specs.LastPassing.{last_passing}
use Rattle.load.specs.LoadMinute.{time_test, whole_part, load_seconds}
use Rattle.numbers.proofs.Searching.{largest_searched}
use Rattle.panel.specs.declared.Panel.{Panel}
use Rattle.section.specs.Tests.{depth_passes}
use borrow.Author.Rules.{rules}
use lib.Dec.{leb}
use mathlib.Core.Bool.{Bool, true}
use mathlib.Core.Path.{◌≡◌, sym, ap, ◌∙◌}
use native.Mathlib.Omega.{arith}
use Rattle.load.proofs.seconds.fire_seconds.Goals as goal

-- the last depth decides for a second
decided : (p : Panel) (second last : ℕ) (b : Bool) → depth_passes p 0 ≡ true → last ≡ last_passing p → b ≡ leb (tenths_at p second 60) last
    → time_test p second 60 ≡ b
decided p second last b e l says = time_by_depth p second 60 (omega arith) e ∙ ap (leb (tenths_at p second 60)) (sym l) ∙ sym says

pub of-fire-requires : goal.of-fire-requires
of-fire-requires c = fire_fits c.panel.result c.panel.ensures.accepted

pub returns : goal.returns
unfolding load_seconds whole_part
returns c =
    let p = c.args.accepted in
    let passes = ap (λ (q : Panel). depth_passes q 0) (sym c.panel.ensures.panel) ∙ accepted_passes c.panel.result c.panel.ensures.accepted in
    let last = c.last_passing-last in
    largest_searched (λ (m : ℕ). time_test p m 60) (λ k m. test_earlier p 60 k m (omega arith)) (test_zero p 60 (omega arith) passes)
    (λ second b k. decided p second last.result b passes last.ensures (search rules)) c.last_keeping.ensures 21600 (omega arith)

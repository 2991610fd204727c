-- The last depth to which a panel passes: where a search may stop, and that it decides for every time.
use Rattle.std.proofs.lemmas.Bool.{false_from_ne_true}
use Prim.Native.Nat.{ℕ, ◌+◌, ◌≤◌, ◌<◌}
use mathlib.Core.Path.{◌≡◌, sym, ◌∙◌}
use mathlib.Core.Bool.{Bool, true, false}
use native.Mathlib.Omega.{arith}
use native.Mathlib.Decide.{dec_le}
use lib.Dec.{leb}
use borrow.Author.Tests.{le-leb, lt-leb}
use Rattle.numbers.proofs.Booleans.{not_both}
use Rattle.numbers.specs.Largest.{largest}
use Rattle.numbers.proofs.LargestKept.{largest_last, largest_keeps, largest_greatest}
use Rattle.panel.specs.declared.Panel.{Panel}
use Rattle.panel.specs.Lamellae.{lamellae, thickness}
use Rattle.section.specs.Tests.{depth_passes}
use Rattle.charring.specs.Depths.{tenths_at}
use Rattle.charring.proofs.DepthBounds.{tenths_within}
use Rattle.load.specs.Failure.{EveryTenthPasses}
use Rattle.load.specs.LoadMinute.{every_from, time_test}
use Rattle.load.specs.LastPassing.{last_passing}
use Rattle.load.proofs.EveryDepth.{every_tenth}

-- every depth to it passes where depth 0 does
last_passes : (p : Panel) → depth_passes p 0 ≡ true → EveryTenthPasses (depth_passes p) (last_passing p)
unfolding last_passing every_from
last_passes p e =
    (every_tenth (depth_passes p) (last_passing p)).0
    (largest_keeps (λ (depth : ℕ). every_from (depth_passes p) 0 depth) (thickness (lamellae p)) e)

-- of any test of depths: a depth to which every depth passes is the last, where it is the deepest or the next does not pass
pub last_found :
    (passes : ℕ → Bool) (deepest v : ℕ) → v ≤ deepest → EveryTenthPasses passes v → (v < deepest → passes (v + 1) ≡ false)
    → v ≡ largest (λ (depth : ℕ). every_from passes 0 depth) deepest
last_found passes deepest v most all next =
    sym
    (largest_last (λ (depth : ℕ). every_from passes 0 depth) deepest v most ((every_tenth passes v).1 all)
    (λ m above within.
    false_from_ne_true (every_from passes 0 m)
    (λ e. not_both (passes (v + 1)) ((every_tenth passes m).0 e (v + 1) (omega arith)) (next (omega arith)))))

-- and no deeper depth is
last_deepest : (p : Panel) (depth : ℕ) → depth ≤ thickness (lamellae p) → every_from (depth_passes p) 0 depth ≡ true → depth ≤ last_passing p
unfolding last_passing
last_deepest p = largest_greatest (λ (depth : ℕ). every_from (depth_passes p) 0 depth) (thickness (lamellae p))

-- the test of a time is whether its depth is no deeper
pub time_by_depth : (p : Panel) (n q : ℕ) → 0 < q → depth_passes p 0 ≡ true → time_test p n q ≡ leb (tenths_at p n q) (last_passing p)
unfolding time_test
time_by_depth p n q h e = go (dec_le (tenths_at p n q) (last_passing p))
  where
    go : Dec (tenths_at p n q ≤ last_passing p) → time_test p n q ≡ leb (tenths_at p n q) (last_passing p)
    go (yes l) =
        (every_tenth (depth_passes p) (tenths_at p n q)).1 (λ depth u. last_passes p e depth (omega arith))
        ∙ sym (le-leb (tenths_at p n q) (last_passing p) l)
    go (no l) =
        false_from_ne_true (time_test p n q) (λ t. l (last_deepest p (tenths_at p n q) (tenths_within p n q h) t))
        ∙ sym (lt-leb (tenths_at p n q) (last_passing p) (omega arith))

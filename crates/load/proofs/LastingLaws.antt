-- Passing through a minute: of an accepted panel it says whether R is at least the minute, and of any panel that depth 0 passes.
use Rattle.std.proofs.lemmas.Bool.{false_from_ne_true}
use Prim.Native.Nat.{ℕ, zero, suc, ◌≤◌}
use mathlib.Core.Path.{◌≡◌, refl, sym, ap₂, ◌∙◌}
use mathlib.Core.Bool.{Bool, true, ◌&&◌}
use native.Mathlib.Omega.{arith}
use native.Mathlib.Decide.{dec_le}
use lib.Dec.{leb}
use borrow.Author.Tests.{le-leb, lt-leb}
use Rattle.panel.specs.declared.Panel.{Panel}
use Rattle.panel.specs.Faces.{turned, fires_on, shown, in_every, least_of}
use Rattle.panel.proofs.Turning.{shown_holds, every_shown}
use Rattle.section.specs.Tests.{depth_passes}
use Rattle.section.proofs.Mirroring.{zero_turned}
use Rattle.refusals.specs.Causes.{last_minute}
use Rattle.refusals.specs.Refusals.{panel_refusal}
use Rattle.refusals.proofs.Turned.{refusal_turned}
use Rattle.charring.specs.Depths.{tenths_at}
use Rattle.load.specs.Failure.{TimePasses}
use Rattle.load.specs.LoadMinute.{time_test, load_minute, printed_load}
use Rattle.load.specs.Lasting.{lasts}
use Rattle.load.proofs.EveryDepth.{every_tenth}
use Rattle.load.proofs.LoadMinutes.{test_says, accepted_load_minute}
use Rattle.load.proofs.WholeParts.{earlier_not_above}
use Rattle.numbers.proofs.Lesser.{at_most_both}

-- in one fire
fire_by_minute : (p : Panel) (minute : ℕ) → panel_refusal p ≡ 0 → minute ≤ last_minute → time_test p minute 1 ≡ leb minute (load_minute p)
fire_by_minute p minute e h = go (dec_le minute (load_minute p))
  where
    go : Dec (minute ≤ load_minute p) → time_test p minute 1 ≡ leb minute (load_minute p)
    go (yes l) =
        (test_says p minute 1 (omega arith)).1
        (earlier_not_above (TimePasses p) 1 minute (load_minute p) l (accepted_load_minute p e).not_above)
        ∙ sym (le-leb minute (load_minute p) l)
    go (no l) =
        false_from_ne_true (time_test p minute 1)
        (λ t. l ((accepted_load_minute p e).greatest minute h ((test_says p minute 1 (omega arith)).0 t)))
        ∙ sym (lt-leb minute (load_minute p) (omega arith))

-- in every fire
every_by_minute :
    (face : ℕ) (p : Panel) (minute : ℕ) → panel_refusal p ≡ 0 → minute ≤ last_minute
    → in_every (λ fire. time_test fire minute 1) (fires_on face p) ≡ leb minute (least_of load_minute (fires_on face p))
every_by_minute zero p minute e h = fire_by_minute p minute e h
every_by_minute (suc zero) p minute e h = fire_by_minute (turned p) minute (refusal_turned p ∙ e) h
every_by_minute (suc (suc face)) p minute e h =
    ap₂ (λ (a b : Bool). a && b) (fire_by_minute p minute e h) (fire_by_minute (turned p) minute (refusal_turned p ∙ e) h)
    ∙ at_most_both minute (load_minute p) (load_minute (turned p))

-- THE LAWS
pub lasts_by_minute : (p : Panel) (minute : ℕ) → panel_refusal p ≡ 0 → minute ≤ last_minute → lasts p minute ≡ leb minute (printed_load p)
unfolding lasts
lasts_by_minute p minute e h = every_by_minute p.face p minute e h

-- depth 0 is among those of any time, and from either face it passes alike
pub lasts_passes : (p : Panel) (minute : ℕ) → lasts p minute ≡ true → depth_passes p 0 ≡ true
unfolding lasts time_test
lasts_passes p minute e =
    let first = every_shown (λ fire. time_test fire minute 1) p.face p e in
    let same = shown_holds (λ q. depth_passes q 0 ≡ depth_passes p 0) p.face p refl (zero_turned p) in
    sym same ∙ (every_tenth (depth_passes (shown p)) (tenths_at (shown p) minute 1)).0 first 0 (omega arith)

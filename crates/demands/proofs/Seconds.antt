-- The failure time in minutes and seconds is what document 02, 5/14, says of it, of what is printed and of the calls. Assumes nothing.
use Prim.Native.Nat.{ℕ, suc, ◌≤◌, ◌<◌}
use mathlib.Core.Path.{◌≡◌, sym, ap₂, subst, ◌∙◌}
use mathlib.Core.Logic.{inl, inr, ⊎_elim, ◌↔◌}
use native.Mathlib.Omega.{arith}
use native.Mathlib.Nat.{eq-or-lt_of_le}
use Rattle.panel.specs.declared.Panel.{Panel}
use Rattle.refusals.specs.Refusals.{panel_refusal}
use Rattle.refusals.proofs.Turned.{in_every_fire}
use Rattle.load.specs.Failure.{TimePasses, EveryFirePasses, PassesUpTo, NotAboveFailure, AboveFailure}
use Rattle.load.specs.LoadMinute.{load_seconds, printed_load_seconds, minutes_in, seconds_over}
use Rattle.load.proofs.WholeParts.{whole_exactly}
use Rattle.load.proofs.EveryFire.{CloseBelow, seconds_close, printed_seconds_close, minutes_printed}
use Rattle.fire_card.specs.Card.{text_of_card}
use Rattle.demands.proofs.EveryCard.{of_every_card}
use Rattle.demands.proofs.ReadBack.{minute_read, minutes_read, seconds_read}
use Rattle.demands.specs.Seconds.{seconds_on_card, in_seconds, OfTime, TimeOf, PrintedTime}

-- minutes and seconds together are the whole seconds again
together : (seconds : ℕ) → in_seconds (minutes_in seconds) (seconds_over seconds) ≡ seconds
together seconds = omega arith

of_close : (Passes : ℕ → ℕ → Type 0) (seconds : ℕ) → CloseBelow Passes 60 seconds → OfTime Passes (minutes_in seconds) (seconds_over seconds)
of_close Passes seconds h =
    let most = h.whole.most in
    record {
      most = omega arith;
      below = omega arith;
      not_above = subst (λ (k : ℕ). NotAboveFailure Passes k 60) (sym (together seconds)) h.whole.not_above;
      close = ⊎_elim
          (λ (e : seconds ≡ 21600). inr (omega arith, (omega arith, lasts (subst (λ (k : ℕ). NotAboveFailure Passes k 60) e h.whole.not_above))))
          (λ (l : seconds < 21600). inl (subst (λ (k : ℕ). AboveFailure Passes (suc k) 60) (sym (together seconds)) (h.next l)))
          (eq-or-lt_of_le most);
      exactly = λ whole within.
          subst (λ (k : ℕ). (whole ≤ k) ↔ PassesUpTo Passes whole 60) (sym (together seconds)) (whole_exactly Passes 60 seconds h.whole whole within);
    }
  where
    -- 21,600 seconds are 360 minutes
    lasts : NotAboveFailure Passes 21600 60 → PassesUpTo Passes 360 1
    lasts all r s positive up = all r s positive (omega arith)

of_panel : (p : Panel) → panel_refusal p ≡ 0 → TimeOf p (text_of_card p)
of_panel p e =
    let seconds = printed_load_seconds p in
    record {
      each_fire =
          in_every_fire (λ fire. OfTime (TimePasses fire) (minutes_in (load_seconds fire)) (seconds_over (load_seconds fire))) of_fire p e;
      of_printed =
          subst (λ (m : ℕ). OfTime (EveryFirePasses p) m (seconds_on_card (text_of_card p))) (sym (minutes_read p))
          (subst (OfTime (EveryFirePasses p) (minutes_in seconds)) (sym (seconds_read p)) (of_close (EveryFirePasses p) seconds (printed_seconds_close p e)));
      same_minutes = minutes_read p ∙ minutes_printed p e ∙ sym (minute_read p);
      lesser = ap₂ in_seconds (minutes_read p) (seconds_read p) ∙ together seconds;
    }
  where
    of_fire : (fire : Panel) → panel_refusal fire ≡ 0 → OfTime (TimePasses fire) (minutes_in (load_seconds fire)) (seconds_over (load_seconds fire))
    of_fire fire accepted = of_close (TimePasses fire) (load_seconds fire) (seconds_close fire accepted)

pub printed_time : PrintedTime
printed_time = of_every_card TimeOf of_panel

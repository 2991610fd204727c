-- Demand 3 holds, of what is printed and of the calls. Assumes nothing.
use Prim.Native.Nat.{ℕ, ◌<◌}
use mathlib.Core.Path.{◌≡◌, refl, sym, subst}
use mathlib.Core.List.{List}
use mathlib.Core.Logic.{inl, inr, ⊎_elim}
use native.Mathlib.Nat.{eq-or-lt_of_le}
use Rattle.panel.specs.declared.Panel.{Panel}
use Rattle.refusals.specs.Refusals.{panel_refusal}
use Rattle.refusals.proofs.Turned.{in_every_fire}
use Rattle.load.specs.Failure.{TimePasses, EveryFirePasses, PassesUpTo}
use Rattle.load.specs.LoadMinute.{load_minute, printed_load}
use Rattle.load.proofs.WholeParts.{whole_exactly}
use Rattle.load.proofs.EveryFire.{CloseBelow, load_close, printed_close}
use Rattle.load.proofs.Exposure.{not_enlarged}
use Rattle.demands.proofs.EveryCard.{of_every_card}
use Rattle.demands.proofs.ReadBack.{minute_read}
use Rattle.demands.specs.Demand3.{printed_minute, OfMinute, OfFire, Demanded, Demand3}

-- Of a load minute, of a fire, and of a panel

of_close : (Passes : ℕ → ℕ → Type 0) (m : ℕ) → CloseBelow Passes 1 m → OfMinute Passes m
of_close Passes m h =
    let most = h.whole.most in
    record {
      exactly = whole_exactly Passes 1 m h.whole;
      not_above = h.whole.not_above;
      close = ⊎_elim (λ (e : m ≡ 360). inr (e, subst (λ (k : ℕ). PassesUpTo Passes k 1) e h.whole.not_above))
          (λ (l : m < 360). inl (h.next l)) (eq-or-lt_of_le most);
      following = λ ne. ⊎_elim (λ (e : m ≡ 360). absurd (ne e)) (λ (l : m < 360). h.next l) (eq-or-lt_of_le most);
      most = most;
    }

of_fire : (p : Panel) → panel_refusal p ≡ 0 → OfFire p
of_fire p e = record { load = of_close (TimePasses p) (load_minute p) (load_close p e); exposure = not_enlarged p }

of_panel : (p : Panel) → panel_refusal p ≡ 0 → Demanded p (printed_load p)
of_panel p e =
    record {
      each_fire = in_every_fire OfFire of_fire p e;
      of_printed = of_close (EveryFirePasses p) (printed_load p) (printed_close p e);
      lesser = refl;
    }

pub demand_3 : Demand3
demand_3 =
    of_every_card (λ (p : Panel) (text : List ℕ). Demanded p (printed_minute text)) (λ p e. subst (Demanded p) (sym (minute_read p)) (of_panel p e))

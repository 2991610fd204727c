-- The cases of the phase at a time, by the numbers that are the same at every minute.
use Prim.Native.Nat.{ℕ, ◌-◌, ◌*◌, ◌<◌, ◌≤◌}
use mathlib.Core.Path.{◌≡◌, sym, ap, ◌∙◌}
use native.Mathlib.Omega.{arith}
use Rattle.charring.specs.declared.CharringValues.{CharringValues}
use Rattle.phases.specs.declared.Phase.TheVariants.{Untouched, UnderCladding, Settled}
use Rattle.charring.specs.Rates.{start_of, failure_of, plain_rate, back_face}
use Rattle.charring.specs.Way.{way}
use Rattle.charring.specs.Depths.{char_at}
use Rattle.phases.specs.Phases.{phase_on, phase_at}
use Rattle.phases.proofs.PhaseCases.{at_through, at_untouched, at_under, at_way}

module _ (f : CharringValues) (n q char back : ℕ) (h : char ≡ char_at f.panel n q) (b : back ≡ q * f.back) where
  bottom : back ≡ q * back_face f.panel
  bottom = b ∙ ap (λ (x : ℕ). q * x) f.back_is

  pub is_through : 2 * back ≤ char → Settled ≡ phase_at f.panel n q
  is_through a = sym (at_through f.panel n q (omega (arith, bottom)))

  module _ (a : char < 2 * back) where
    short : char_at f.panel n q < 2 * q * back_face f.panel
    short = omega (arith, bottom)

    module _ (start : ℕ) (s : start ≡ q * f.start) where
      starts : start ≡ q * start_of f.panel
      starts = s ∙ ap (λ (x : ℕ). q * x) f.start_is

      pub is_untouched : 1000 * n < start → Untouched ≡ phase_at f.panel n q
      is_untouched c = sym (at_untouched f.panel n q short (omega (arith, starts)))

      module _ (c : start ≤ 1000 * n) (failure : ℕ) (e : failure ≡ q * f.failure) where
        fails : failure ≡ q * failure_of f.panel
        fails = e ∙ ap (λ (x : ℕ). q * x) f.failure_is

        pub is_under : 1000 * n < failure → UnderCladding ≡ phase_at f.panel n q
        is_under d = sym (at_under f.panel n q short (omega (arith, starts)) (omega (arith, fails)))

        pub is_after :
            failure ≤ 1000 * n
            → phase_on (way f.panel) (2 * plain_rate f.panel * (1000 * n - q * failure_of f.panel)) q ≡ phase_at f.panel n q
        is_after d = sym (at_way f.panel n q short (omega (arith, starts)) (omega (arith, fails)))

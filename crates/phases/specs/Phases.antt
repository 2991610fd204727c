-- Document 01, "Charring": "At each time the panel is in one phase: untouched, under cladding, fast up to a named end, or settled."
use Rattle.std.specs.Prelude.{ℕ, ◌+◌, ◌-◌, ◌*◌, ◌/◌, List, [], ◌∷◌, Bool, true, false, ltb, leb}
use Rattle.panel.specs.declared.Panel.{Panel}
use Rattle.phases.specs.declared.Phase.{Phase}
use Rattle.phases.specs.declared.Phase.TheVariants.{Untouched, UnderCladding, Fast, Settled}
use Rattle.charring.specs.Rates.{start_of, failure_of, plain_rate, back_face}
use Rattle.charring.specs.Way.{Stretch, way, fast_part, settled_part}
use Rattle.charring.specs.Depths.{char_at}

-- on a way, after as much as x: "a boundary instant belongs to the later phase"
unfoldable pub phase_on : List Stretch → ℕ → ℕ → Phase
phase_on [] x q = Settled
phase_on (s ∷ ss) x q =
    elim (ltb x (q * fast_part s)) [
      | true ↦ Fast (s.end / 10000)
      | false ↦
          elim (ltb x (q * fast_part s + 2 * q * settled_part s)) [
            | true ↦ Settled
            | false ↦ phase_on ss (x - q * fast_part s - 2 * q * settled_part s) q
          ]
    ]

-- in the stretch where the time is over, by whether its fast part lasts
abbrev pub phase_in : Bool → ℕ → Phase
phase_in true end = Fast (end / 10000)
phase_in false end = Settled

-- from t_f on, on a way
abbrev pub phase_after : Panel → List Stretch → ℕ → ℕ → Phase
phase_after p ss n q = phase_on ss (2 * plain_rate p * (1000 * n - q * failure_of p)) q

-- the phase at n/q minutes, by a char depth, a back face and the phase that it is in from t_f on; "a panel charred through is settled"
abbrev pub phase_from : Panel → ℕ → ℕ → Phase → ℕ → ℕ → Phase
phase_from p char back after n q =
    elim (leb (2 * q * back) char) as (λ _. Phase) [
      | true ↦ Settled
      | false ↦
          elim (ltb (1000 * n) (q * start_of p)) as (λ _. Phase) [
            | true ↦ Untouched
            | false ↦
                elim (ltb (1000 * n) (q * failure_of p)) as (λ _. Phase) [
                  | true ↦ UnderCladding
                  | false ↦ after
                ]
          ]
    ]

-- by the panel's own
unfoldable pub phase_at : Panel → ℕ → ℕ → Phase
phase_at p n q = phase_from p (char_at p n q) (back_face p) (phase_after p (way p) n q) n q

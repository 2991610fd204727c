-- Document 02, 6/14: the first run, at t_f, of a panel of which no bond line was passed before t_f, and of one of which lines were.
use Rattle.std.specs.Prelude.{ℕ, ◌*◌, ◌≤◌, ◌<◌, ◌≡◌, List, Bool}
use Rattle.panel.specs.declared.Panel.{Panel}
use Rattle.panel.specs.Faces.{fires, InEvery, least_of}
use Rattle.section.specs.Tests.{depth_passes}
use Rattle.phases.specs.declared.Phase.TheVariants.{Settled}
use Rattle.charring.specs.Rates.{failure_of, back_face, bond_lines, line_end, intact_end, first_end}
use Rattle.charring.specs.Way.{Stretch, way_to}
use Rattle.charring.specs.Depths.{char_on, char_at, effective_from, in_tenths}
use Rattle.phases.specs.Phases.{phase_after, phase_from, phase_at}
use Rattle.load.specs.Failure.{seconds_per_minute}
use Rattle.load.specs.LoadMinute.{every_from, whole_part, load_minute, printed_load, load_seconds, printed_load_seconds}
use Rattle.charring_stated.specs.Charring.{FastUpTo, NonePassed, DeepestPassed, NoLineAt}

-- the way from t_f on by the rule where no line was passed
abbrev pub intact_way : Panel → List Stretch
intact_way p = way_to p (intact_end p)

-- whether the time n/q passes by that way, as `time_test` says it
abbrev pub intact_test : Panel → ℕ → ℕ → Bool
intact_test p n q = every_from (depth_passes p) 0 (in_tenths p (effective_from p (char_on p (intact_way p) n q) n q) q)

-- "the former rule holds": of the end, and with it of the depth and the phase at every time n/q, and of the load minute and its seconds
pub record Intact (p : Panel) : Type 0 where
  pub end : first_end p ≡ intact_end p
  pub depth : (n q : ℕ) → char_at p n q ≡ char_on p (intact_way p) n q
  pub phase : (n q : ℕ) → phase_at p n q ≡ phase_from p (char_on p (intact_way p) n q) (back_face p) (phase_after p (intact_way p) n q) n q
  pub minute : load_minute p ≡ whole_part (intact_test p) 1
  pub second : load_seconds p ≡ whole_part (intact_test p) seconds_per_minute

-- the same of every fire of a panel, and of what is printed
pub record IntactInEvery (p : Panel) : Type 0 where
  pub each : InEvery Intact (fires p)
  pub minutes : printed_load p ≡ least_of (λ fire. whole_part (intact_test fire) 1) (fires p)
  pub seconds : printed_load_seconds p ≡ least_of (λ fire. whole_part (intact_test fire) seconds_per_minute) (fires p)

-- the first run where l is the deepest line passed before t_f and `below` are the lines below it: the end is the nearer of l + 25 mm and the
-- next line; at t_f, short of the back face, the run starts if that is not reached, and at no line it does not if it is
pub record PastLine (p : Panel) (l : ℕ) (below : List ℕ) : Type 0 where
  pub end : first_end p ≡ line_end l below
  pub starts :
      (n q : ℕ) → 0 < q → 1000 * n ≡ q * failure_of p → char_at p n q < 2 * q * back_face p → char_at p n q < 2 * q * line_end l below
      → FastUpTo (phase_at p n q) (line_end l below)
  pub starts_not :
      (n q : ℕ) → 0 < q → 1000 * n ≡ q * failure_of p → char_at p n q < 2 * q * back_face p → NoLineAt p (char_at p n q) q
      → 2 * q * line_end l below ≤ char_at p n q → phase_at p n q ≡ Settled

-- an accepted panel is one or the other
pub data FirstRun (p : Panel) : Type 0 where
  intact : NonePassed (char_at p (failure_of p) 1000) (bond_lines p) → Intact p → FirstRun p
  past_line : (l : ℕ) (below : List ℕ) → DeepestPassed (char_at p (failure_of p) 1000) (bond_lines p) l below → PastLine p l below → FirstRun p

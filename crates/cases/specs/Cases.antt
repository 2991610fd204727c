-- Rows of worked cases: what a row says, and what it is for a table of rows to hold.
use Rattle.std.specs.Prelude.{ℕ, ◌*◌, ◌≡◌, List, [], ◌∷◌, Bool, true, false, Option}
use Rattle.panel.specs.declared.Panel.{Panel}
use Rattle.refusals.specs.Refusals.{panel_refusal}
use Rattle.phases.specs.declared.Phase.{Phase}
use Rattle.phases.specs.Phases.{phase_at}
use Rattle.load.specs.Failure.{TimePasses, IsFailureTime}
use Rattle.load.specs.LoadMinute.{printed_load, printed_load_seconds, minutes_in, seconds_over}
use Rattle.panel.specs.declared.Material.{Material}
use Rattle.basic_times.specs.declared.Role.{Role}
use Rattle.basic_times.specs.Rules.{basic_time}
use Rattle.layers.specs.Layers.{ei_sum, printed_ei}
use Rattle.ratings.specs.Answers.{rei_grade}
use Rattle.planing.specs.declared.Cut.{Cut}
use Rattle.planing.specs.Answers.{planing_of}
use Rattle.record.specs.Refusals.{record_refusal}
use Rattle.fire_card.specs.Printed.{printed_text}

pub data Case : Type 0 where
  -- a definition gives a number: what it gives, and what the document says
  gives : ℕ → ℕ → Case
  -- a panel is accepted, and the load minute R that is printed for it is so many minutes
  bears : Panel → ℕ → Case
  -- a panel is accepted, and the time printed for it is so many minutes and seconds
  bears_for : Panel → ℕ → ℕ → Case
  -- in a fire, given as the panel that has it on its first face, the failure time is exactly n/q minutes
  failure_time : Panel → ℕ → ℕ → Case
  -- in such a fire the panel is in a phase at n/q minutes
  in_phase : Panel → ℕ → ℕ → Phase → Case
  -- the basic time of a layer at a thickness is so many thousandths of a minute
  basic : Role → Material → ℕ → ℕ → Case
  -- a panel is accepted, and in the fire on its first face its layer times add up to so many thousandths of a minute
  adds_up : Panel → ℕ → Case
  -- a panel is accepted, and the EI that is printed for it is so many minutes
  separates : Panel → ℕ → Case
  -- a panel is accepted, the minutes R and EI that are printed for it are these, and its REI grade is that
  rated : Panel → ℕ → ℕ → ℕ → Case
  -- the same, and this is the least cut that lowers the REI grade, or none does
  planed : Panel → ℕ → ℕ → ℕ → Option Cut → Case
  -- the bytes of a record are accepted, and exactly this text is printed for them
  prints : List ℕ → List ℕ → Case

abbrev pub Rated : Panel → ℕ → ℕ → ℕ → Type 0
Rated p r ei grade = (panel_refusal p ≡ 0) × ((printed_load p ≡ r) × ((printed_ei p ≡ ei) × ((rei_grade p).minutes ≡ grade)))

-- what it is for a row to hold
abbrev pub Holds : Case → Type 0
Holds (gives worked said) = worked ≡ said
Holds (bears p m) = (panel_refusal p ≡ 0) × (printed_load p ≡ m)
Holds (bears_for p minutes seconds) =
    (panel_refusal p ≡ 0) × ((minutes_in (printed_load_seconds p) ≡ minutes) × (seconds_over (printed_load_seconds p) ≡ seconds))
Holds (failure_time p n q) = IsFailureTime (TimePasses p) n q
Holds (in_phase p n q f) = phase_at p n q ≡ f
Holds (basic role m h t) = basic_time role m h ≡ t
Holds (adds_up p n) = (panel_refusal p ≡ 0) × (ei_sum p ≡ n)
Holds (separates p minute) = (panel_refusal p ≡ 0) × (printed_ei p ≡ minute)
Holds (rated p r ei grade) = Rated p r ei grade
Holds (planed p r ei grade answer) = Rated p r ei grade × (planing_of p ≡ answer)
Holds (prints b text) = (record_refusal b ≡ 0) × (printed_text b ≡ text)

-- every row of a table holds
abbrev pub EveryRowHolds : List Case → Type 0
EveryRowHolds [] = Unit
EveryRowHolds (c ∷ cs) = Holds c × EveryRowHolds cs

-- 1 where a depth passes, 0 where it does not
abbrev pub passing : Bool → ℕ
passing true = 1
passing false = 0

-- a char depth of so many hundredths of a millimetre at a time n/q: half picometres, times q
abbrev pub hundredths : ℕ → ℕ → ℕ
hundredths mm q = 2 * q * (10000000 * mm)

-- the same in hundred-thousandths of a millimetre, the unit of a named end
abbrev pub hundred_thousandths : ℕ → ℕ → ℕ
hundred_thousandths mm q = 2 * q * (10000 * mm)

-- Document 01, "Remaining section": R, the load minute, as a number; and document 02, 5/14, the same in seconds, RS. That they are what
-- `IsLoadMinute` and `IsLoadSeconds` mean is a theorem (LoadMinutes in proofs/).
use Rattle.std.specs.Prelude.{ℕ, zero, suc, ◌-◌, ◌*◌, ◌/◌, ◌%◌, Bool, ◌&&◌}
use Rattle.numbers.specs.Largest.{largest}
use Rattle.panel.specs.declared.Panel.{Panel}
use Rattle.panel.specs.Faces.{fires, least_of}
use Rattle.section.specs.Tests.{depth_passes}
use Rattle.refusals.specs.Causes.{last_minute}
use Rattle.charring.specs.Depths.{tenths_at}
use Rattle.load.specs.Failure.{seconds_per_minute}

-- whether each depth passes, from `first` on and `more` further
unfoldable pub every_from : (ℕ → Bool) → ℕ → ℕ → Bool
every_from passes first zero = passes first
every_from passes first (suc more) = passes first && every_from passes (suc first) more

-- whether each depth from `first` through `last` passes, both ends in, where `first` is no deeper than `last`
abbrev pub every_through : (ℕ → Bool) → ℕ → ℕ → Bool
every_through passes first last = every_from passes first (last - first)

-- whether the time n/q passes: "every tenth from 0 to its effective depth, rounded up, passes". The earlier times then pass too
unfoldable pub time_test : Panel → ℕ → ℕ → Bool
time_test p n q = every_from (depth_passes p) 0 (tenths_at p n q)

-- "the failure time's whole minutes, at most 360", in parts of which `unit` make a minute: the largest number of them, at most 360
-- minutes, up to which every time passes. `test` says of a time whether it and every earlier one pass
unfoldable pub whole_part : (ℕ → ℕ → Bool) → ℕ → ℕ
whole_part test unit = largest (λ (m : ℕ). test m unit) (last_minute * unit)

-- 01's load minute, R, of the fire on the panel's first face
unfoldable pub load_minute : Panel → ℕ
load_minute p = whole_part (time_test p) 1

-- the load minute that is answered and printed: "For 2 the printed minutes are the lesser of the two fires"
abbrev pub printed_load : Panel → ℕ
printed_load p = least_of load_minute (fires p)

-- Seconds

-- the failure time's whole seconds, at most 360 minutes, of the fire on the panel's first face
unfoldable pub load_seconds : Panel → ℕ
load_seconds p = whole_part (time_test p) seconds_per_minute

-- "and for face 2 it is the lesser of the two fires"
abbrev pub printed_load_seconds : Panel → ℕ
printed_load_seconds p = least_of load_seconds (fires p)

-- "Test houses write the failure time as minutes and seconds .. seconds always below 60"
abbrev pub minutes_in : ℕ → ℕ
minutes_in seconds = seconds / seconds_per_minute

abbrev pub seconds_over : ℕ → ℕ
seconds_over seconds = seconds % seconds_per_minute

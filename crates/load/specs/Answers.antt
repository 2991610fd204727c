-- What the open calls of this crate answer, by document 01's number.
use Rattle.std.specs.Prelude.{ℕ, ℤ, pos, ◌-ℤ◌, Result}
use Rattle.panel.specs.declared.Panel.{Panel}
use Rattle.refusals.specs.Lines.{unless_refused}
use Rattle.load.specs.declared.MinutesAndSeconds.{MinutesAndSeconds}
use Rattle.refusals.specs.Refusals.{panel_refusal}
use Rattle.limits.specs.Asked.{minute_refusal}
use Rattle.load.specs.LoadMinute.{printed_load, printed_load_seconds, minutes_in, seconds_over}

-- the load minute
unfoldable pub load_answer : Panel → Result ℕ ℕ
load_answer p = unless_refused (panel_refusal p) (printed_load p)

-- document 02, 5/14: "a second answer in that form, from 0:00 to 360:00"; minutes and seconds
abbrev pub minutes_and_seconds : ℕ → MinutesAndSeconds
minutes_and_seconds seconds = record { minutes = minutes_in seconds; seconds = seconds_over seconds }

unfoldable pub load_time_answer : Panel → Result MinutesAndSeconds ℕ
load_time_answer p = unless_refused (panel_refusal p) (minutes_and_seconds (printed_load_seconds p))

-- "The reserve against a wanted minute is R minus it, negative where the panel falls short."
abbrev pub reserve_of : ℕ → ℕ → ℤ
reserve_of wanted load = pos load -ℤ pos wanted

unfoldable pub reserve_answer : Panel → ℕ → Result ℤ ℕ
reserve_answer p wanted = unless_refused (minute_refusal p wanted) (reserve_of wanted (printed_load p))

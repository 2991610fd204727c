-- Document 02, 5/14, sentence by sentence, as demand 3 is stated: the failure time in whole minutes and seconds. A time is n/q minutes, q
-- not 0; two times are compared by multiplying out.
use Rattle.std.specs.Prelude.{ℕ, suc, ◌+◌, ◌*◌, ◌≤◌, ◌<◌, ◌≡◌, List, ◌⊎◌, ◌↔◌}
use Rattle.panel.specs.declared.Panel.{Panel}
use Rattle.panel.specs.Faces.{fires, InEvery, least_of}
use Rattle.load.specs.Failure.{TimePasses, EveryFirePasses, PassesUpTo, NotAboveFailure, AboveFailure}
use Rattle.load.specs.LoadMinute.{load_seconds, minutes_in, seconds_over}
use Rattle.text_lines.specs.Text.{line_feed, after, first_number, number_after_colon}
use Rattle.demands.specs.EveryCard.{OfEveryCard}
use Rattle.demands.specs.Demand3.{from_load, printed_minute}

-- the two numbers on the card's line RS, which comes after six line feeds: the one in its first field, and the one after the colon
abbrev pub from_time : List ℕ → List ℕ
from_time text = after line_feed (from_load text)

abbrev pub minutes_on_card : List ℕ → ℕ
minutes_on_card text = first_number (from_time text)

abbrev pub seconds_on_card : List ℕ → ℕ
seconds_on_card text = number_after_colon (from_time text)

-- both together, in seconds
abbrev pub in_seconds : ℕ → ℕ → ℕ
in_seconds minutes seconds = 60 * minutes + seconds

-- what is asked of a time in minutes and seconds, by what it is for a time to pass
pub record OfTime (Passes : ℕ → ℕ → Type 0) (minutes seconds : ℕ) : Type 0 where
  -- "from 0:00 to 360:00, seconds always below 60"
  pub most : in_seconds minutes seconds ≤ in_seconds 360 0
  pub below : seconds < 60
  -- "It is never above the exact failure time"
  pub not_above : NotAboveFailure Passes (in_seconds minutes seconds) 60
  -- "and under one second below it, or 360:00 where the panel lasts"
  pub close : AboveFailure Passes (suc (in_seconds minutes seconds)) 60 ⊎ ((minutes ≡ 360) × ((seconds ≡ 0) × PassesUpTo Passes 360 1))
  -- and so, as of the load minute: a whole second from 0:00 to 360:00 is at or below it exactly when every time up to that second passes
  pub exactly : (whole : ℕ) → whole ≤ in_seconds 360 0 → (whole ≤ in_seconds minutes seconds) ↔ PassesUpTo Passes whole 60

-- what is asked of a panel and the text of its card
pub record TimeOf (p : Panel) (text : List ℕ) : Type 0 where
  -- each fire has its own time
  pub each_fire : InEvery (λ fire. OfTime (TimePasses fire) (minutes_in (load_seconds fire)) (seconds_over (load_seconds fire))) (fires p)
  -- the printed one when a time is taken to pass exactly when it passes in both fires
  pub of_printed : OfTime (EveryFirePasses p) (minutes_on_card text) (seconds_on_card text)
  -- "Its minutes equal the printed R"
  pub same_minutes : minutes_on_card text ≡ printed_minute text
  -- "and for face 2 it is the lesser of the two fires"
  pub lesser : in_seconds (minutes_on_card text) (seconds_on_card text) ≡ least_of load_seconds (fires p)

-- of every accepted record, as demand 3 is
abbrev pub PrintedTime : Type 0
PrintedTime = OfEveryCard TimeOf

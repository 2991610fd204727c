-- Demand 3 of the user, sentence by sentence, with what document 02, 3/14, says of it for several fires. A time is n/q
-- minutes, q not 0; two times are compared by multiplying out.
use Rattle.std.specs.Prelude.{ℕ, suc, ◌*◌, ◌≤◌, ◌<◌, ◌≡◌, List, ◌⊎◌, ◌↔◌}
use Rattle.panel.specs.declared.Panel.{Panel}
use Rattle.panel.specs.Faces.{fires, InEvery, least_of}
use Rattle.load.specs.Failure.{TimePasses, EveryFirePasses, PassesUpTo, NotAboveFailure, AboveFailure}
use Rattle.load.specs.LoadMinute.{load_minute}
use Rattle.load.specs.Exposure.{NotEnlarged}
use Rattle.text_lines.specs.Text.{line_feed, after, first_number}
use Rattle.demands.specs.EveryCard.{OfEveryCard}

-- the card from its line R on, which comes after five line feeds
abbrev pub from_load : List ℕ → List ℕ
from_load text = after line_feed (after line_feed (after line_feed (after line_feed (after line_feed text))))

-- the printed load minute: the first number on that line
abbrev pub printed_minute : List ℕ → ℕ
printed_minute text = first_number (from_load text)

-- what is demanded of a load minute, by what it is for a time to pass
pub record OfMinute (Passes : ℕ → ℕ → Type 0) (minute : ℕ) : Type 0 where
  -- "a whole minute from 0 to 360 is at or below the printed load minute exactly when every time up to that minute passes, fractions
  -- of a minute included"
  pub exactly : (whole : ℕ) → whole ≤ 360 → (whole ≤ minute) ↔ PassesUpTo Passes whole 1
  -- "The printed minute is never above the exact failure time"
  pub not_above : NotAboveFailure Passes minute 1
  -- "and less than one minute below it, or is 360 where the panel passes through 360"
  pub close : AboveFailure Passes (suc minute) 1 ⊎ ((minute ≡ 360) × PassesUpTo Passes 360 1)
  -- "unless it is 360, some time before the following minute fails"; and it is never more
  pub following : (minute ≡ 360 → ⊥) → AboveFailure Passes (suc minute) 1
  pub most : minute ≤ 360

-- what is demanded of a fire, given as the panel that has it on its first face
pub record OfFire (fire : Panel) : Type 0 where
  -- "Demand 3 holds of each fire with its own load minute"
  pub load : OfMinute (TimePasses fire) (load_minute fire)
  -- "whichever two times are taken, fractions and times past failure included, more exposure never enlarges the remaining section"
  pub exposure : (n q r s : ℕ) → 0 < q → 0 < s → n * s ≤ r * q → NotEnlarged fire n q r s

-- what is demanded of a panel and its printed load minute
pub record Demanded (p : Panel) (printed : ℕ) : Type 0 where
  pub each_fire : InEvery OfFire (fires p)
  -- "and of the printed minute when a time is taken to pass exactly when it passes in both fires"
  pub of_printed : OfMinute (EveryFirePasses p) printed
  -- "For 2 the printed minutes are the lesser of the two fires"
  pub lesser : printed ≡ least_of load_minute (fires p)

-- "For every accepted record, whatever lamellae, boards and moment it gives"
abbrev pub Demand3 : Type 0
Demand3 = OfEveryCard (λ p text. Demanded p (printed_minute text))

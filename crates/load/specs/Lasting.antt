-- Whether a panel passes through a minute: what is left of R where a minute is given.
use Rattle.std.specs.Prelude.{ℕ, Bool}
use Rattle.panel.specs.declared.Panel.{Panel}
use Rattle.panel.specs.Faces.{fires, in_every}
use Rattle.load.specs.LoadMinute.{time_test}

-- the minute and every earlier time pass, in every fire of the panel; of an accepted panel, whether R is at least the minute (LastingLaws
-- in proofs/)
unfoldable pub lasts : Panel → ℕ → Bool
lasts p minute = in_every (λ fire. time_test fire minute 1) (fires p)

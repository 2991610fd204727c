-- What a basic time is to the one in c times as many parts of a minute.
use Prim.Native.Nat.{ℕ, ◌+◌, ◌*◌, ◌<◌, ◌≤◌}

-- a time in coarse parts is one in c times as many parts, rounded down
pub record RoundedDown (c coarse fine : ℕ) : Type 0 where
  pub least : c * coarse ≤ fine
  pub below : fine < c * coarse + c

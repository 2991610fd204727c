-- Document 01, "Remaining section": passing times, the failure time, and the load minute; document 02, 5/14: the same in seconds. A
-- time is n/q minutes, q not 0, and two times are compared by multiplying out.
use Rattle.std.specs.Prelude.{ℕ, ◌*◌, ◌≤◌, ◌<◌, ◌≡◌, Bool, true}
use Rattle.panel.specs.declared.Panel.{Panel}
use Rattle.panel.specs.Faces.{fires, InEvery}
use Rattle.section.specs.Tests.{depth_passes}
use Rattle.refusals.specs.Causes.{last_minute}
use Rattle.charring.specs.Depths.{tenths_at}

-- every depth from 0 to `deepest`, in whole tenths of mm, passes
abbrev pub EveryTenthPasses : (ℕ → Bool) → ℕ → Type 0
EveryTenthPasses passes deepest = (depth : ℕ) → depth ≤ deepest → passes depth ≡ true

-- "A time passes when every tenth from 0 to its effective depth, rounded up, passes." In the fire on the panel's first face
abbrev pub TimePasses : Panel → ℕ → ℕ → Type 0
TimePasses p n q = EveryTenthPasses (depth_passes p) (tenths_at p n q)

-- "when a time is taken to pass exactly when it passes in both fires": in every fire of the panel
abbrev pub EveryFirePasses : Panel → ℕ → ℕ → Type 0
EveryFirePasses p n q = InEvery (λ fire. TimePasses fire n q) (fires p)

-- every time up to n/q passes; '"Up to" a time always takes that time in.' `Passes` says of a time whether it passes
abbrev pub PassesUpTo : (ℕ → ℕ → Type 0) → ℕ → ℕ → Type 0
PassesUpTo Passes n q = (r s : ℕ) → 0 < s → r * q ≤ n * s → Passes r s

-- 01's failure time: "a time is not above the failure time when that time and every earlier one pass"
abbrev pub NotAboveFailure : (ℕ → ℕ → Type 0) → ℕ → ℕ → Type 0
NotAboveFailure Passes n q = PassesUpTo Passes n q

-- "and is above it when some earlier time fails"
pub record AboveFailure (Passes : ℕ → ℕ → Type 0) (n q : ℕ) : Type 0 where
  -- the earlier time, as a fraction of a minute
  pub over : ℕ
  pub under : ℕ
  pub whole : 0 < under
  pub earlier : over * q < n * under
  pub fails : Passes over under → ⊥

-- n/q, q not 0, is the failure time, "the upper end of the passing times": it is not above the failure time, and every later time is
pub record IsFailureTime (Passes : ℕ → ℕ → Type 0) (n q : ℕ) : Type 0 where
  pub whole : 0 < q
  pub not_above : NotAboveFailure Passes n q
  pub last : (r s : ℕ) → 0 < s → n * s < r * q → AboveFailure Passes r s

-- "the failure time's whole minutes, at most 360", in parts of which `unit` make a minute: the greatest number of them, at most
-- 360 minutes, that is not above the failure time
pub record IsWholePart (Passes : ℕ → ℕ → Type 0) (unit m : ℕ) : Type 0 where
  pub most : m ≤ last_minute * unit
  pub not_above : NotAboveFailure Passes m unit
  pub greatest : (k : ℕ) → k ≤ last_minute * unit → NotAboveFailure Passes k unit → k ≤ m

-- 01's load minute, R, of the fire on the panel's first face
abbrev pub IsLoadMinute : Panel → ℕ → Type 0
IsLoadMinute p m = IsWholePart (TimePasses p) 1 m

abbrev pub seconds_per_minute : ℕ
seconds_per_minute = 60

-- the same in seconds
abbrev pub IsLoadSeconds : Panel → ℕ → Type 0
IsLoadSeconds p s = IsWholePart (TimePasses p) seconds_per_minute s

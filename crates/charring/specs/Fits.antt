-- The limits of lines 3, 4, 8, 9, 10 and 11 within which the depth at n/q minutes, times q, fits 64 bits for up to sixty parts to the
-- minute, and a time of which a depth is asked.
use Rattle.std.specs.Prelude.{ℕ, ◌*◌, ◌<◌, ◌≤◌}
use Rattle.panel.specs.declared.Panel.{Panel}
use Rattle.panel.specs.Lamellae.{lamellae, thickness}
use Rattle.panel.specs.Products.{rate_of}
use Rattle.refusals.specs.Causes.{last_minute}
use Rattle.charring.specs.Rates.{start_of, failure_of, k2}

pub record CharringFits (p : Panel) : Type 0 where
  pub rate : rate_of p ≤ 100
  pub start : start_of p ≤ 112000
  pub failure : failure_of p ≤ 360000
  pub order : start_of p ≤ failure_of p
  pub slow : k2 p.cladding ≤ 10000
  pub least : 1 ≤ p.count
  pub count : p.count ≤ 9
  pub thick : thickness (lamellae p) ≤ 4000

-- n/q minutes of which a depth is worked out: at most 360, in whole parts of which q, at most sixty, make a minute
abbrev pub TimeFits : ℕ → ℕ → Type 0
TimeFits n q = (0 < q) × ((q ≤ 60) × (n ≤ last_minute * q))

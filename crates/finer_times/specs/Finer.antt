-- Document 02, 8/14: "Rounding down at every layer costs nine-lamella panels part of a minute." What is kept in finer parts of a minute loses
-- nothing: said of any number of parts and of c times as many, of which hundredths and thousandths are one case.
use Rattle.std.specs.Prelude.{ℕ, ◌*◌, ◌≤◌}
use Rattle.panel.specs.declared.Panel.{Panel}
use Rattle.panel.specs.Faces.{fires, InEvery, least_of}
use Rattle.layers.specs.Layers.{ei_sum_in, ei_minute_in}

-- the layer times of a panel in c times as many parts to the minute, beside those in so many parts, by the same definitions
pub record LosesNothing (parts c : ℕ) (p : Panel) : Type 0 where
  -- in each fire the sum of the layer times is no less
  pub sum : InEvery (λ fire. c * ei_sum_in parts fire ≤ ei_sum_in (c * parts) fire) (fires p)
  -- so no minute of EI is lost
  pub ei : least_of (ei_minute_in parts) (fires p) ≤ least_of (ei_minute_in (c * parts)) (fires p)

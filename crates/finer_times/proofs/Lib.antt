-- One layer, and its basic time.
pub mod RoundedDown
pub mod Steps
pub mod BasicTimes
-- All layers of a panel, and its fires.
pub mod Sums
pub mod Panels

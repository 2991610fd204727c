-- Every depth from one to another.
pub mod EveryDepth
-- R: what its test says, and that it is 01's load minute.
pub mod LoadMinutes
-- The last depth to which a panel passes decides for every time.
pub mod LastPassing
-- The failure time and its whole part.
pub mod WholeParts
pub mod Closeness
pub mod ExactFailure
-- Several fires.
pub mod EveryFire
-- Passing through a minute: whether R is at least the minute.
pub mod LastingLaws
-- More exposure, the reserve, and unused places.
pub mod Exposure
pub mod Reserves
pub mod Unused

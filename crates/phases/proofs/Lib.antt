-- Which phase it is.
pub mod PhaseCases
-- What the functions need.
pub mod PhaseWalk
pub mod PhaseTests
pub mod Replies
-- Unused places do not matter.
pub mod Unused

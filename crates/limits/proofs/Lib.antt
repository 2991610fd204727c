-- What holds of an accepted panel.
pub mod Accepted
-- Unused places do not matter.
pub mod Unused
-- A panel that is asked for a minute.
pub mod Minutes

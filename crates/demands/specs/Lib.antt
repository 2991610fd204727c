pub mod EveryCard
pub mod Demand3
pub mod Seconds
pub mod Ratings
pub mod FinerTimes
pub mod Planing
pub mod NoByte
pub mod Lvl

pub mod LateTimes
pub mod Runs
pub mod LayersKeep
pub mod EachFire
pub mod Unused

pub mod Rates
pub mod Way
pub mod Depths
pub mod Fits
pub mod Lines
pub mod Walk

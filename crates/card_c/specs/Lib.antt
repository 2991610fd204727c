pub mod Exported
pub mod Planing
pub mod Version

pub mod Texts
pub mod Cards
pub mod Prints

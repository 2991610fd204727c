pub mod Text
pub mod Stores

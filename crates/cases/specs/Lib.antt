pub mod Cases
pub mod Starred
pub mod Further

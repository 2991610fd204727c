pub mod Choice
pub mod Firsts
pub mod Largest
pub mod Least
pub mod ByBits
pub mod Searched
pub mod Bytes

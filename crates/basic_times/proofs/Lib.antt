pub mod Rule
pub mod Entries

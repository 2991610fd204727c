pub mod Keeps
pub mod Answers
pub mod Asked

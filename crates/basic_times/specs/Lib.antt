pub mod Rules
pub mod Tables
pub mod Answers

pub mod Taken
pub mod Layouts
pub mod Refusals
pub mod Answers

pub mod Grades
pub mod Answers

pub mod Builds
pub mod Answers
pub mod Shared

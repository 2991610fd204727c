pub mod Failure
pub mod LoadMinute
pub mod LastPassing
pub mod Reach
pub mod Lasting
pub mod Exposure
pub mod FailureTests
pub mod Answers

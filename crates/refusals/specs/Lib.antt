pub mod Numbers
pub mod Lines
pub mod Causes
pub mod Refusals

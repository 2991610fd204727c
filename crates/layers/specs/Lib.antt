pub mod Layers
pub mod Bounds
pub mod Kept
pub mod Answers

pub mod Cuts
pub mod LeastCut
pub mod Answers

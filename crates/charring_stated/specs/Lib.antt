pub mod Charring
pub mod FirstRun

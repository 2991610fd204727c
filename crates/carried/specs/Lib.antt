pub mod Carried
pub mod Carrying

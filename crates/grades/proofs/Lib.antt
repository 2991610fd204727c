pub mod Between
pub mod Falling
pub mod Greatest

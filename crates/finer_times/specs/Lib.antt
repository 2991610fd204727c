pub mod Finer

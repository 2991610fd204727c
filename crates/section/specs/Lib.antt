pub mod Sections
pub mod Growing
pub mod Tests
pub mod Between
pub mod NothingCut
pub mod Mirrored

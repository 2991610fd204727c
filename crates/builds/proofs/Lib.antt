-- What the test says, and that it is an equivalence.
pub mod Builds
pub mod Turning
-- What the answer of `same_build` says of two panels.
pub mod SameBuilds
pub mod Unused
-- What panels of the same build share.
pub mod SharedDepths
pub mod SharedPhases
pub mod SharedLayers
pub mod Shared
-- Worked panels.
pub mod Worked

-- The counted parts lie in order, and the sums over them keep their bounds.
pub mod Chains
-- No difference is cut off at 0.
pub mod Moments
pub mod NothingCut
-- A deeper section is smaller.
pub mod Shrinking
-- A smaller moment is carried too.
pub mod SmallerMoment
-- At depth 0 the other face is tested alike.
pub mod MirrorSums
pub mod Mirroring
-- What the functions need: sums lamella by lamella.
pub mod Growing
-- Worked panels keep the limits.
pub mod Worked

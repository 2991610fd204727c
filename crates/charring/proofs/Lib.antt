-- Laws of depth: the way through the panel, what has charred on it, and that depths neither fall nor jump.
pub mod Rounding
pub mod Ramps
pub mod WayLaws
pub mod WayRamps
pub mod DepthLaws
pub mod DepthBounds
pub mod DepthParts
pub mod JustBefore
pub mod Rising
-- The end of the first run.
pub mod FirstRun
-- Accepted panels: their limits.
pub mod Accepted
-- Unused places do not matter.
pub mod Unused
-- What the functions need.
pub mod Numbers
pub mod ByThickness
pub mod WalkLaws
pub mod PassedLines
pub mod Minutes

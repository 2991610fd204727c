-- A cut panel: the lines that it meets, and how the code makes it.
pub mod Thinned
pub mod CutPanels
pub mod CutArrays
-- Unused places do not matter.
pub mod Unused
-- Whether a grade is lowered needs no minute.
pub mod Lowering
-- The search finds what the paper asks for.
pub mod FromFire
pub mod Searching
pub mod Planing

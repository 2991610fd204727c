-- Laws of phase: how fast the depth grows, how long a phase lasts, and that after t_f it depends on the depth alone.
pub mod Runs
pub mod PhaseLaws
pub mod Lasting
pub mod PhaseOfDepth
-- Accepted panels: their bond lines.
pub mod Lines
-- The definitions keep document 01's sentences.
pub mod FirstEnds
pub mod SameRun
pub mod Growth
pub mod Stated
-- The first run, at t_f.
pub mod FirstRun
-- And nothing else does.
pub mod Marks
pub mod Fixed

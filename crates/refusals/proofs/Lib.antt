-- Tables of lines, and that of a panel.
pub mod FirstLine
pub mod PanelTable
-- What the functions need.
pub mod Tests
-- A turned panel meets the lines of the panel.
pub mod Turned
-- Unused places do not matter.
pub mod Unused
-- Worked panels are accepted.
pub mod Worked

-- What is carried from depth to depth is the section.
pub mod Carrying
-- In either fire of an accepted panel.
pub mod Lent
pub mod EitherFire
-- What the functions need: where the next along one begins, and what is carried along the lamellae.
pub mod NextAlong
pub mod CarriedAlong
-- Worked panels keep the limits.
pub mod Worked

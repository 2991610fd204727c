-- What bytes are taken for.
pub mod TakenBytes
-- Lengths.
pub mod Lengths
-- What bytes say that meet no line, what the lines about a record say of it, and that the record of an accepted panel is accepted.
pub mod Sound
pub mod Records
pub mod Accepting
-- Both round trips.
pub mod DecodeEncoded
pub mod EncodeDecoded
pub mod Writes
pub mod RoundTrips
-- Unused places do not matter.
pub mod Unused
-- The record of panel G, and 01's lengths.
pub mod Worked

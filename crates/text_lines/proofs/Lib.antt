-- Numbers and lines as text: their lengths, and what is read back.
pub mod Digits
pub mod Lengths
pub mod Reading
-- What the functions need: stores that follow each other.
pub mod Storing

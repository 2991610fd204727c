-- Tests, every case of an enum, products, and the largest and the least number that keep a test, searched too.
pub mod Booleans
pub mod EveryCase
pub mod Products
pub mod Lesser
pub mod LargestKept
pub mod LeastKept
pub mod Searching
pub mod ByBits
-- Lists: first values, parts and stores.
pub mod FirstValues
pub mod Lists
-- Big-endian numbers in bytes.
pub mod Places
pub mod Digits
pub mod Words

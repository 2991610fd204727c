pub mod Used
pub mod Lent
pub mod Arrays
pub mod Turning
pub mod Thicknesses
pub mod Rates

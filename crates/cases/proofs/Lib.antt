pub mod SumsByBits
pub mod Planed
pub mod Printed
pub mod Tested
pub mod Claim
pub mod Further

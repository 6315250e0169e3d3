pub mod Whole
pub mod Octets

pub mod Text
pub mod Laws
pub mod Characters
pub mod Within
pub mod Legal
pub mod Naturals

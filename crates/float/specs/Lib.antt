pub mod Float
pub mod Laws
pub mod LeastLemmas
pub mod Exponents
pub mod Octets

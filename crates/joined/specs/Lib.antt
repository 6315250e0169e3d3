pub mod Joined
pub mod Front
pub mod Laws

pub mod Types
pub mod Number
pub mod Lawful

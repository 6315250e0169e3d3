pub mod Tables
pub mod Loads

pub mod Points
pub mod Calls
pub mod Load
pub mod Series
pub mod Sound
pub mod Theorem

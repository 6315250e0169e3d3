pub mod Board
pub mod Table
pub mod Faults
pub mod Load

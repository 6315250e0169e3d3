pub mod Marks
pub mod Model

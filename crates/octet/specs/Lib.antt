pub mod Range
pub mod Control
pub mod Step
pub mod Scene
pub mod Laws

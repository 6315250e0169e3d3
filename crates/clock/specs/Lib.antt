pub mod Fields
pub mod Calendar
pub mod Time
pub mod Date
pub mod DateLaws
pub mod Taken
pub mod Both
pub mod TimeLaws

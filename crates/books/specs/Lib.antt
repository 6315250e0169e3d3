pub mod Rows
pub mod General
pub mod Heating
pub mod Standard
pub mod Apart
pub mod Laws

pub mod Good
pub mod Lists
pub mod Reach
pub mod Apart
pub mod Refusals
pub mod Proved

pub mod Bits
pub mod Flags
pub mod Voidable
pub mod DateTime
pub mod DateTimeLaws
pub mod PartLaws
pub mod FieldLaws
pub mod FlagLaws

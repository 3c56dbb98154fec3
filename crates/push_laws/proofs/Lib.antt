pub mod Each
pub mod Plain
pub mod Shared
pub mod Turn
pub mod Turns
pub mod Whole

pub mod Applied
pub mod Local
pub mod Plain
pub mod Shared
pub mod Whole

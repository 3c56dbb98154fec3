pub mod Finds
pub mod Handing
pub mod Holds
pub mod Joins
pub mod Plain
pub mod Refusals
pub mod Shared

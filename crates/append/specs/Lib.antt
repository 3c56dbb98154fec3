pub mod Appends
pub mod Entries

pub mod Counted
pub mod Find
pub mod Found
pub mod Open
pub mod Opened

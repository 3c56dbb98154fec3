pub mod Found
pub mod Lists
pub mod Lookups
pub mod Making
pub mod Records

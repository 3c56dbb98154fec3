pub mod Lists
pub mod Live
pub mod Lookup

pub mod Ids
pub mod Lists

pub mod Completion
pub mod Held
pub mod Lists
pub mod Outside
pub mod Pairs
pub mod Returned
pub mod Values

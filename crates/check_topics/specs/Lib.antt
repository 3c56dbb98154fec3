pub mod Ledgers
pub mod Orders

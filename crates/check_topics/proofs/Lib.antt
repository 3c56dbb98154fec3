pub mod Bytes
pub mod Distinct
pub mod Ids
pub mod Ledgers
pub mod Orders
pub mod Topics

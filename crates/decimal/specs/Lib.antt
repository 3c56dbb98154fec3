pub mod Decimal
pub mod Promises

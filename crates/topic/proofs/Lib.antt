pub mod LedgerWords
pub mod Ledgers
pub mod Lists
pub mod Positions

pub mod Readied
pub mod Records
pub mod Sharing
pub mod Staying
pub mod Steps
pub mod Writing

pub mod Format
pub mod Calls
pub mod Text
pub mod Played
pub mod Steps
pub mod Promises
pub mod Readings

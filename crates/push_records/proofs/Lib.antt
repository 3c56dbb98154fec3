pub mod Making
pub mod Partway
pub mod Reading

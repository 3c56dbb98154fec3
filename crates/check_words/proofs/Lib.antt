pub mod Parts
pub mod Spelt
pub mod Tables

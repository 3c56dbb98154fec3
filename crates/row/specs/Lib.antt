pub mod Script
pub mod Row
pub mod Readings
pub mod Promises
pub mod Demand

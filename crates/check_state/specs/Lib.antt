pub mod Dispatchers
pub mod Marks
pub mod Places
pub mod Stamps
pub mod ValidConsumers

pub mod Readings
pub mod Script
pub mod Given
pub mod ReadBack
pub mod OneByOne
pub mod Refused
pub mod Book
pub mod Demand

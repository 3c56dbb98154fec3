pub mod Entering
pub mod Joining
pub mod Seating
pub mod Subscribing

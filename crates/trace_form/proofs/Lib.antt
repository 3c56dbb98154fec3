pub mod Rooms
pub mod Tested

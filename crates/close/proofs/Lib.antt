pub mod Closes
pub mod Rings

pub mod Frame
pub mod Moved

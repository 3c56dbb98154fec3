pub mod Reading
pub mod Sum

pub mod Alike
pub mod Below
pub mod Rows
pub mod Values

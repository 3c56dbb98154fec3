pub mod Bits
pub mod Four
pub mod Masks

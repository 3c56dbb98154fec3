pub mod Act
pub mod Codec
pub mod Field
pub mod Store
pub mod Words
pub mod Wrote

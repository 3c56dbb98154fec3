-- What the code of this crate means, by the definitions of the wire.
pub mod Parts
pub mod Sizes
pub mod Groups

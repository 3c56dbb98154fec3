-- What the code of this crate means, by the definitions of the wire.
pub mod Found
pub mod InNumbers
pub mod Types

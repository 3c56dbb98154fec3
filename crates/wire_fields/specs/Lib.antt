-- What the code of this crate means, by the definitions of the wire.
pub mod Ahead
pub mod Found
pub mod Picked
pub mod Selected
pub mod Unread
pub mod Values

pub mod Ackable
pub mod NewIds

-- The laws of bit sets, which other crates cite, and what this crate's own proofs share.
pub mod Word
pub mod Sets
pub mod Masks
pub mod Fours

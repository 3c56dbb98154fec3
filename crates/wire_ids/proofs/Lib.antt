-- The laws of the two passes over ids.
pub mod Parts
pub mod Tallies
pub mod OneId
pub mod Groups

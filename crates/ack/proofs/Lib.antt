pub mod Counts
pub mod Finish
pub mod Marking
pub mod Outcomes
pub mod Shared
pub mod Turns

pub mod Answered
pub mod Records
pub mod Steps

-- What the walks over a message turn on. Other crates cite `Walks` and `Selections`.
pub mod Answered
pub mod Answers
pub mod Varints
pub mod FieldsRead
pub mod Walks
pub mod Selections
pub mod Laying
pub mod Bases
pub mod TwoBytes
pub mod Tags

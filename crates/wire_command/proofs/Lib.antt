-- What the readers of the messages turn on.
pub mod Steps
pub mod Targets
pub mod Sizes
pub mod Choices
pub mod Answers
pub mod InNumbers

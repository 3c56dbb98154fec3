pub mod Answering
pub mod Most
pub mod Pushing

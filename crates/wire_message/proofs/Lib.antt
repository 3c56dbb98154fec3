-- What the reader of Message turns on.
pub mod Contents
pub mod Records

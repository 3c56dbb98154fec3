-- What serves the functions.
pub mod Numbers
pub mod Reaches
pub mod Words

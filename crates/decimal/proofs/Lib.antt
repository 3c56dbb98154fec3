-- What serves the functions, and the promises.
pub mod Written

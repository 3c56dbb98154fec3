pub mod Filled
pub mod Going
pub mod Rows

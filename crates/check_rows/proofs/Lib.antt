pub mod Alike
pub mod Among
pub mod Below
pub mod Elements
pub mod Ranges
pub mod RowLists
pub mod RowOrder
pub mod Zeros

-- The laws of the walk over a lent list, which other crates cite. `Steps` is what they share, `Forms` serves the test of the form.
pub mod Steps
pub mod Forms
pub mod Walks
pub mod Lists

pub mod Admitted
pub mod Commanded
pub mod Seats

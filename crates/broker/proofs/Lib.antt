pub mod Unspelt

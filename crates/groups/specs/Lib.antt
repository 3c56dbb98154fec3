-- What the code of this crate means: its groups as the rules have them. The groups by their offset in a list, as the rules'
-- reading of it finds them, are for proofs alone.
pub mod Walk
pub mod Lent

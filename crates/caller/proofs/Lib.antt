-- What the proofs by hand use.
--     Lent     a local array, lent as a slice
pub mod Lent

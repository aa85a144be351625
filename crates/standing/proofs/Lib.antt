-- The laws that the proofs of this crate rest on.
--     Alike        when two lists have the same members
--     Decides      what the test of the rows that stand decides
--     Counted      the test of one row, step by step
--     Rows         rows that stand one behind the other, row by row
--     ByParts      the whole test by its parts
pub mod Alike
pub mod Decides
pub mod Counted
pub mod Rows
pub mod ByParts

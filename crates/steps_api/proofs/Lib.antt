-- The laws that the proofs of this crate rest on.
--     Numbers      codes that fit a number of 64 bits, and the numbers of a state
--     Telling      the walk that a state holds, and what is told of a start and of a call
--     States       a state that was written holds the walk that the definitions give
pub mod Numbers
pub mod Telling
pub mod States

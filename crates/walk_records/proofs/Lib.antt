-- The laws that the proofs of this crate rest on.
--     Numbers      the numbers of records that are written
--     Inner        the test and a call over all headings, by those over the first
--     Joined       what the start and a call give, by what is passed
--     Shared       a lent slice that is lent on to be read, and comes back
pub mod Numbers
pub mod Inner
pub mod Joined
pub mod Shared

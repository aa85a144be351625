-- The laws that the proofs of this crate rest on.
--     Testing      the test before an entry, part by part
--     Taking       what the start and a call give
pub mod Testing
pub mod Taking

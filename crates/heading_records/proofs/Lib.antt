-- The laws that the proofs of this crate rest on.
--     Reading      what the headings come to, read one after the other
--     Beyond       the check of headings with more behind them
pub mod Reading
pub mod Beyond

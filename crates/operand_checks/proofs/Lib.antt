-- The laws that the proofs of this crate cite.
--     Naturals     a number from 0 on, as the machine casts it
--     Spans        a span within the room, and one that is not
--     Replies      the checks of each kind, as the code makes them
--     Groups       group's working period is no shorter than the span
--     Kept         alter's operands behind the checks, and its D
--     Alters       alter's sizes
pub mod Naturals
pub mod Replies
pub mod Spans
pub mod Groups
pub mod Kept
pub mod Alters

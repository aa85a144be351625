-- The laws that the proofs of this crate rest on.
--     Behind       the rows of a pool with one more behind them
--     Clearing     lists that are cleared
--     Outcomes     the outcome of a table, entry by entry
--     Headings     rows and headings in the lists, read by the headings
--     LeftRows     what is left after a refusal, and where the table is answered
--     Demands      demands 2 and 3 on what a conversion leaves
--     Refusals     refusals where operands change places
--     Labels       laws of labels on the rows that are left
pub mod Behind
pub mod Clearing
pub mod Outcomes
pub mod Headings
pub mod LeftRows
pub mod Demands
pub mod Refusals
pub mod Labels

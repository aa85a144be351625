-- The laws that the proofs of this crate rest on, and how long a sheet is.
--     Rows         the rows that a conversion leaves, as their lines
--     Texts        a text that is read, as what its sheet prints
--     Whole        a sheet that is laid into a cleared list
--     Lengths      how many bytes the lines of rows have at most
--     Refusals     the numbers of a refusal
--     Limit        a list of `sheet_limit` bytes holds any sheet
--     Demands      a sheet shows what the text's table means
pub mod Rows
pub mod Texts
pub mod Whole
pub mod Lengths
pub mod Refusals
pub mod Limit
pub mod Demands

-- Numbers for C.
--     Codes        refusals, and replies, as numbers
pub mod Codes

-- The check of finished lists for C.
--     Codes        verdicts as numbers
pub mod Codes

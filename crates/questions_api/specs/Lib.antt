-- Questions in plain numbers.
--     Codes        an answer as one number, and the numbers beside it
pub mod Codes

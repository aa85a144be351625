-- The conversion and the sheet in plain numbers.
--     Codes        an answer as one number
--     LeftCoded    the answer and the lists that are left
pub mod Codes
pub mod LeftCoded

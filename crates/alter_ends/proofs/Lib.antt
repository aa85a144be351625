-- What check 11 of an altering rests on.
--     Ending       the first label from 0 on, and the last one before 0
pub mod Ending

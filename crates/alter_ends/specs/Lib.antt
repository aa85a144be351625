-- Check 11 of an altering.
--     Ending       what it is given, and the ends of the working row
pub mod Ending

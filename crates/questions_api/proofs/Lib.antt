-- Questions in plain numbers.
--     Counts       down's number of parts
--     Places       a place that is told
--     Rules        a rule of lateness that is neither 0 nor 1 is refused with 18
pub mod Counts
pub mod Places
pub mod Rules

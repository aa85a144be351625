-- Numbers for C.
--     Counts       counts of what a list holds
pub mod Counts

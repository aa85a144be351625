-- Figures and lateness as binary64 numbers (document 01, "Questions to a row").
--     Near         a whole number as a binary64 number; how near one is to a quotient
--     Figures      the three figures of a row
--     Allowance    which allowances are allowed, and what each allows
--     Parts        how many 256ths a share has
pub mod Near
pub mod Figures
pub mod Allowance
pub mod Parts

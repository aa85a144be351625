-- A journal in plain numbers.
--     Codes        what opening and an append answer, and leave
pub mod Codes

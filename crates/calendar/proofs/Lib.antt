-- Theorems by computation on the definitions of document 01.
--     Worked       the slots worked by hand
--     Altering     the example of altering
--     Slips        the easy slips
--     Examples     an example of each other kind
--     Questions    the length of a granule with a gap
--     Tries        the divisors that are tried for the least period
--     Refused      an example of each refusal of a conversion, and their order
--     Relations    what the relations of the algebra rule out
pub mod Worked
pub mod Altering
pub mod Slips
pub mod Examples
pub mod Questions
pub mod Tries
pub mod Refused
pub mod Relations

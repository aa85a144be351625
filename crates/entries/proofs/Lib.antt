-- The laws that the checks and what an entry names rest on.
--     Fields       the numbers of an entry fit their width
--     Naturals     a number from 0 on, as the machine casts it
--     Passing      what checks 4, 5 and 6 say of an entry that passes them
--     Arms         the kind of such an entry, by its number
--     Seconds      its second operand, and what it names
pub mod Fields
pub mod Naturals
pub mod Passing
pub mod Arms
pub mod Seconds

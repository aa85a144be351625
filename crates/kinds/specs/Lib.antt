-- The operands and the operations of the code, in document 01's terms.
--     Stands       the row of an operand in a pool
--     Operations   the operation of a kind, and the limits of its numbers
pub mod Stands
pub mod Limits
pub mod Operations

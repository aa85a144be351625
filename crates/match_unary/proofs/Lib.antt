-- The laws that the loop over one operand rests on.
--     Single       the kinds, and what a loop over one operand is given
--     Counting     what it keeps, from one instant to the next
pub mod Single
pub mod Counting

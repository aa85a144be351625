-- The laws of the algebra, in the algebra and on stored rows.
--     Pointwise      laws of group and shift
--     Sets           laws of union, intersection and difference
--     SelfOperands   anchor and combine of a calendar with itself
--     Selections     selecting up, and combining again
--     Intermediate   where a function on the integers reaches a value
--     Alter          laws of alter
--     Count          the labels of a calendar from one number up to another
--     Renumber       the law of renumber
--     Values         values of terms whose operands are given
--     Algebra        each law holds among calendars
--     Entries        each entry of an answered table means the result of what it names
--     Answered       a table that stores rows is answered
--     Demand3        demand 3 over the definitions
--     Refusals       refusals where operands change places
--     Example        demand 3 applies to an example
--     Applies        an example of each law
--     Swaps          examples of refusals where operands change places
pub mod Pointwise
pub mod Sets
pub mod SelfOperands
pub mod Selections
pub mod Intermediate
pub mod Alter
pub mod Count
pub mod Renumber
pub mod Values
pub mod Algebra
pub mod Entries
pub mod Answered
pub mod Demand3
pub mod Refusals
pub mod Example
pub mod Applies
pub mod Swaps

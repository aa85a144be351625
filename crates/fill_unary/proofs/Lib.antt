-- The laws that the loops over one row rest on.
--     Instants     an instant of the first turn of a row that stands in a pool
--     Shifts       the turns of the loop that shifts labels
--     Numbers      the numbers of labels, by how many labels there are below
--     Latest       the greatest label before an instant
--     Passed       a pass over the cells of a row that counts labels
--     Reckoned     the number of the last label before the instant 0
--     Counting     a step of renumber
--     Renumbers    the turns of the loop that renumbers labels
--     Lent         an operand that is lent by its cells alone
--     Ends         the working row has a label
--     Groups       the labels of one group
--     Turned       a turn of group
--     Along        the turns of the loop that groups labels stretch by stretch
pub mod Instants
pub mod Shifts
pub mod Numbers
pub mod Latest
pub mod Passed
pub mod Reckoned
pub mod Counting
pub mod Renumbers
pub mod Lent
pub mod Ends
pub mod Groups
pub mod Turned
pub mod Along

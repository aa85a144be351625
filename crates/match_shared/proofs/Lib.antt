-- The laws that the comparing loops rest on.
--     Seen         one instant more, and what the row is at the end
--     Claims       what a loop over rows of the pool asks and answers
--     Lent         the row of an operand whose cells are lent
--     LeastRows    a row that is least is the least row of the calendar that it means
--     RightRow     the row that the conversion would leave, known by what it means
--     Ends         check 11 by the ends of the working row
pub mod Seen
pub mod Claims
pub mod Lent
pub mod LeastRows
pub mod RightRow
pub mod Ends

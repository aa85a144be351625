-- The calendar algebra of document 01, in its order.
--   What a reader has to believe:
--     Limits       the limits of tables, rows, labels and numbers
--     Meaning      calendars over all instants; rows, and the calendar that a row means; the least row
--     Operation    the thirteen kinds, and which of their operands must be full or aligned
--     Algebra      what each kind asks of its operands and what its result is: relations over all instants
--     Size         the span and the working period
--     Reply        an answer or a numbered refusal
--     Lists        lists of numbers and tests on them
--     Table        what each entry names, and the checks that need no row
--     Sound        rule 13 for a row that is handed in
--     Asked        what a question to two rows asks, over the calendars that they mean
--     Refusals     the calendar type and the refusals of the code
--   The same, computed:
--     Granules     granules of a row, by search
--     Distance     the distance of the working row
--     Compute      the result of each kind over rows
--     Checks       fullness, alignment and the other checks of an entry
--     Least        the least form of a row
--     Tries        how many divisors are tried for it
--     Outcome      the refusals of a table's entries in order, and their rows
--     Stored       the headings and the pool that a conversion leaves
--     Questions    questions to a row that was handed in
--     Worked       the slots worked by hand, as a list
pub mod Limits
pub mod Meaning
pub mod Operation
pub mod Algebra
pub mod Size
pub mod Reply
pub mod Lists
pub mod Table
pub mod Sound
pub mod Asked
pub mod Refusals
pub mod Granules
pub mod Distance
pub mod Compute
pub mod Checks
pub mod Least
pub mod Tries
pub mod Outcome
pub mod Stored
pub mod Questions
pub mod Worked

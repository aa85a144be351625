-- The computed conversion means the algebra.
--     Span             two rows over their span
--     Rises            aligned operands rise alike
--     Everywhere       a test over one span decides for all instants
--     Alignments       each alignment over pairs of near instants
--     OperandChecks    full and aligned operands (checks 7 and 9)
--     Labels           calendars whose labels are mapped
--     Pointwise        bottom, group, shift
--     Totals           how many numbers up to one pass a test
--     Renumber         renumber
--     Combine          combine
--     Anchor           anchor
--     Kept             calendars that keep some of their labels
--     Pick             members that Pick takes
--     Select           the three selections
--     Sets             union, intersection, difference
--     Tiles            intervals that tile the whole numbers
--     Fine             the fine granules of each coarse one
--     AlterSize        alter's working period
--     Altered          the altered granules
--     EmptiedCheck     emptied granules (check 10)
--     Alter            alter
--     Right            each kind computes what the algebra says
--     Working          the working row (checks 12 and 11)
--     Operations       operands of an operation, one by one
--     Converted        one operation with its room
--     Named            what checks 4, 5 and 6 give
--     Steps            a table's outcome, step by step
--     Answered         an answered row is sound
--     Stored           what holds of all stored rows
--     Unique           a table has one meaning
--     Demand2          demand 2 over the definitions
pub mod Span
pub mod Rises
pub mod Everywhere
pub mod Alignments
pub mod OperandChecks
pub mod Labels
pub mod Pointwise
pub mod Totals
pub mod Renumber
pub mod Combine
pub mod Anchor
pub mod Kept
pub mod Pick
pub mod Select
pub mod Sets
pub mod Tiles
pub mod Fine
pub mod AlterSize
pub mod Altered
pub mod EmptiedCheck
pub mod Alter
pub mod Right
pub mod Working
pub mod Operations
pub mod Converted
pub mod Named
pub mod Steps
pub mod Answered
pub mod Stored
pub mod Unique
pub mod Demand2

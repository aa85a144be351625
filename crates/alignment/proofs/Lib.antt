-- The laws that the pass over two rows rests on.
--     Pairs        what an alignment says of two instants: a labelled one between them, whole periods, and all instants
--     Fitting      the test of an instant and the labelled one before it
--     Choices      that test by the outcomes of its parts
--     Starts       what is left of a pass
--     Rising       whether labels rise alike
--     Passes       a pass over two rows
--     OneCell      where one of them has one cell
--     Looks        a pass that is about to look at an instant
--     Changes      a pass where every instant has a label, by the changes of b
--     Codes        labels as numbers
--     Read         the rows of a call, as their numbers are read back
pub mod Pairs
pub mod Fitting
pub mod Choices
pub mod Starts
pub mod Rising
pub mod Passes
pub mod OneCell
pub mod Looks
pub mod Changes
pub mod Codes
pub mod Read

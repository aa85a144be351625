-- Alignment, instant by instant.
--     Codes        a label as a number
--     Fits         what a pass over two rows asks of an instant and the labelled one before
--     Pass         the rows of a pass, and where it starts
pub mod Codes
pub mod Fits
pub mod Pass

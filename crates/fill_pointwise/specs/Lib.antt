-- The loops of anchor and the set operations.
--     Decided      the label that the labels of an instant decide
--     Scanning     what holds of the loop's state before an instant
--     Beside       a set operation with a row of one cell
--     Pieces       a set operation over a piece of both rows
pub mod Decided
pub mod Scanning
pub mod Beside
pub mod Pieces

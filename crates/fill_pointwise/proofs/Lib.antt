-- The laws that the loops of anchor and the set operations rest on.
--     Labels       the labels of an instant decide its label
--     Kept         the cells that are written beside a row of one cell
--     Pieces       the labels of a piece of both rows, and the cells that are written
--     Joined       piece after piece
--     OneCell      the label of an instant, where an operand has one cell
pub mod Labels
pub mod Kept
pub mod OneCell
pub mod Pieces
pub mod Joined

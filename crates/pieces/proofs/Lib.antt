-- The laws of pieces.
--     Cells        a cell is that of its label
--     Places       the labels of a piece, and the place behind it
pub mod Cells
pub mod Places

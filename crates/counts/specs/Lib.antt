-- What is counted in a row.
--     Labels       the labels that a row has
--     Abreast      the labels of four parts of a row, counted side by side
pub mod Labels
pub mod Abreast

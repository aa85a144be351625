-- The loops along granules.
--     Lying        a granule of b lies in one of a
--     Picking      a selection from a row of one cell
pub mod Lying
pub mod Picking

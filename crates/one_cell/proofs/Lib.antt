-- The laws of a row of one cell.
--     Labels       the label and the cursor of an instant
--     Along        a row with the same labels, or none
--     Pools        such a row in a pool, beside another
pub mod Labels
pub mod Along
pub mod Pools

-- The passes over the cells of a row.
--     Order        check 13, in the order of the code
--     Blocks       the cells that are counted at a time
pub mod Order
pub mod Blocks

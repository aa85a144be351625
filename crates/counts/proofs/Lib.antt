-- The laws that the counts rest on.
--     Counts       the labels of a row, counted
--     Steps        the labels counted in a loop, also of four parts at once
--     Whole        a row that has a label at every instant
--     Turn         how many granules a turn has
pub mod Counts
pub mod Steps
pub mod Whole
pub mod Turn

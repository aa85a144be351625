-- The loops over one row.
--     Counts       what renumber keeps
--     Grouped      what group keeps
pub mod Counts
pub mod Grouped

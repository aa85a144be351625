-- Headings as records.
--     Records      their numbers, and the rows that a reader finds by them
--     LeftRecords  what a conversion leaves with them, as it is computed
pub mod Records
pub mod LeftRecords

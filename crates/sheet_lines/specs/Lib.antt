-- The lines of a sheet, laid into a lent list.
--     Laid         what the list holds
--     RowLines     the lines
pub mod Laid
pub mod RowLines

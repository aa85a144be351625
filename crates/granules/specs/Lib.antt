-- What the laws of rows are about.
--     Valid        the rows that mean a calendar
pub mod Valid

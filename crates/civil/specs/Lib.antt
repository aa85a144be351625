-- The civil calendar.
--   What a reader has to believe:
--     Rule         the Gregorian rule: leap years, month lengths, one day after the other
--     Table        the table whose entries are the months and the years
--     Rows         what its rows are to be
--     Asked        the date of an instant and the instant of a date
--   The same, computed:
--     Instants     the instant of a date by a formula; the reply to a date
pub mod Rule
pub mod Table
pub mod Rows
pub mod Asked
pub mod Instants

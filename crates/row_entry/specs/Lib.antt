-- How the row of an entry is entered.
--     Stores       rows and headings as they stand between two entries
--     Entering     how the row of an entry comes to stand behind the others
pub mod Stores
pub mod Entering

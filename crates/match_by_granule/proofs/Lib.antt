-- The laws of the comparing loops along granules.
--     Given        what such a loop is given, and the rows as they are lent
--     Along        what it keeps between two granules
--     Combines     combine
--     Selects      the selections
pub mod Given
pub mod Along
pub mod Combines
pub mod Selects

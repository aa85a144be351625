-- The civil calendar in plain numbers.
--     Tables       the list in which the table is left, number by number
pub mod Tables

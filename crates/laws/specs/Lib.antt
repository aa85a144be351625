-- The laws of the algebra.
--     Terms        terms over operands, and their values among calendars
--     Laws         the list of laws of documents 01 and 02
--     Commutes     operations and tables whose operands may change places
--     Matches      entries of a table that match a term; equal rows
--     Answered     tables that are answered
--     Example      examples of a law
pub mod Terms
pub mod Laws
pub mod Commutes
pub mod Matches
pub mod Answered
pub mod Example

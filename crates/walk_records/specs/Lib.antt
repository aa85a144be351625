-- The conversion in steps with a record for each heading, in code.
--     Passing      what a start or a call comes to, by what it comes to over the first headings
pub mod Passing

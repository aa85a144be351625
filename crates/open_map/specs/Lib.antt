-- Open maps (document 02, Req 12).
--     Instants     open instants by the plain definitions: how many, the next, the last
--     Maps         what a map shows, and check 13 of a map
--     Inquiries    the questions, with their refusals
--     Turns        an instant by its turn and cell, and its rank, as the code counts
--     Answers      the answers of the code
pub mod Instants
pub mod Maps
pub mod Inquiries
pub mod Turns
pub mod Answers

-- Open instants of a row (document 02, Req 14).
--     Inquiries    the questions, with their refusals
--     Shown        the map that the row would make, as the code ranks by it
pub mod Inquiries
pub mod Shown

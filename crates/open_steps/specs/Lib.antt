-- Steps along open instants (document 02, Req 14).
--     Steps        the n-th open instant and the number between two, by the plain definitions
--     Inquiries    the questions, with their refusals
--     Ranked       a set cell and an open instant by their ranks, as the code finds them
--     Answers      the answer of the code
pub mod Steps
pub mod Inquiries
pub mod Ranked
pub mod Answers

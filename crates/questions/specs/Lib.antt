-- The answers to questions.
--     Answers      the answers of the code in document 01's numbers; figures and lateness
pub mod Answers

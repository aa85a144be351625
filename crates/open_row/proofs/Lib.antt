-- The laws of open instants of rows.
--     Labelled     the cells with a label, counted
--     Rows         a row beside the map that it would make
--     Rules        what document 02 says of the questions
pub mod Labelled
pub mod Rows
pub mod Rules

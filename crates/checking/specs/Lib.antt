-- The check of finished headings and rows (document 02, Req 11).
--     Claims       what the check is given, and what it comes to at an entry
--     Weighing     a claimed row by its heading and cells, and beside the working row
pub mod Claims
pub mod Weighing

-- A table as text, and what its conversion prints (document 02, Req 01).
--     Numerals     decimal numbers
--     Words        words and lines
--     Text         a table's text
--     Parse        how it is read
--     Answers      the answers of the code
--     Lines        what the code says of a line
--     Tables       the answer of the code for a text
--     SheetWords   the words of a sheet's lines
--     Sheet        what is printed
pub mod Numerals
pub mod Words
pub mod Text
pub mod Parse
pub mod Answers
pub mod Lines
pub mod Tables
pub mod SheetWords
pub mod Sheet

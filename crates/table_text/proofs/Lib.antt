-- Theorems on a table's text.
--     Examples     document 02's examples
--     Decimal      digits and their value
--     Numbers      numbers are written and read alike
--     Pieces       words and lines are joined and split alike
--     Entries      a line of six numbers
--     Texts        a text is read exactly if it is the written form of entries
--     Printed      what is printed determines the outcome
--     Scanning     digits read one by one
--     Cutting      pieces of a line, and its numbers, one by one
--     Gathering    the lines of a text, and their numbers in a table
pub mod Examples
pub mod Decimal
pub mod Numbers
pub mod Pieces
pub mod Entries
pub mod Texts
pub mod Printed
pub mod Scanning
pub mod Cutting
pub mod Gathering

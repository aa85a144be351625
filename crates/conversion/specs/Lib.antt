-- What converting a table comes to and leaves.
--     Conversion   what converting comes to
--     Answers      the answer of the code, in document 01's terms
--     Tables       a table whose entries are due, and lists that hold nothing
--     Shows        what the lists show to a reader, by what the table means
--     Left         what is left in the lists, as it is computed
pub mod Conversion
pub mod Answers
pub mod Tables
pub mod Shows
pub mod Left

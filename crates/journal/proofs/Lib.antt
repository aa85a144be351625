-- Theorems on journals.
--     Bytes        the bytes of a table's text
--     Places       where a complete trailer can stand
--     Opening      what opening finds, as a relation
--     Cuts         what opening finds behind a whole record, and behind bytes that end no trailer
--     Torn         what opening finds after an append that is cut after any byte
--     Appending    an append as it is computed is what it is to be
--     Promises     what document 02 promises of a journal
--     Demands      demands 2 and 3 read the table found
--     Trailers     what a trailer shows, byte by byte, in a window of the file
--     Finding      what the search over the whole file answers
--     Windows      opening a file by windows from its end
--     Laying       a record in a lent list
--     Examples     a record and the opening of a file, by their bytes
pub mod Bytes
pub mod Places
pub mod Opening
pub mod Cuts
pub mod Torn
pub mod Appending
pub mod Promises
pub mod Demands
pub mod Trailers
pub mod Finding
pub mod Windows
pub mod Laying
pub mod Examples

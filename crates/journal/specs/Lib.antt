-- A journal: tables as text in a file, one appended after another (document 02, Req 10, where it is called a book).
--     Journal      a record, and the opening of a journal
--     Append       what an append comes to
--     History      the files that appends make, whole or cut
--     Opens        what opening answers
--     Lent         what an append writes, in a lent list
--     Writing      an append as it is computed
--     Window       the search in a window of the file
--     Answers      opening as it is computed, whole and by windows
pub mod Journal
pub mod Append
pub mod History
pub mod Opens
pub mod Lent
pub mod Writing
pub mod Window
pub mod Answers

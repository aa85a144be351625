-- The laws of steps along open instants.
--     Selected     the n-th set cell, in its word and from one place or another
--     Ranks        n steps add n to a rank; there and back
--     Found        the n-th open instant that a map shows
--     Replied      the answer of an instant that is found, or none
--     Rules        what documents 02 and 001 say of steps
pub mod Selected
pub mod Ranks
pub mod Found
pub mod Replied
pub mod Rules

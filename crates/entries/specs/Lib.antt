-- The declared types of this crate, in document 01's terms.
--     Entries      an entry's six numbers, and what becomes of a table by the checks that need no row
--     Naming       what an entry names, as the code holds it, and what becomes of it by those checks
pub mod Entries
pub mod Naming

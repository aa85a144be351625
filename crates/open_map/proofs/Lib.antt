-- The laws of open maps.
--     Ranks        ranks of open instants: counting, the next, the last
--     Shown        the rank that a map gives
--     Given        what check 13 says of a map that is handed in
--     Found        the open instants that set cells stand for
--     Numbers      bounds, and numbers that are read back from their bits
--     Risen        how far the rank rises, over whole turns and a part of one
--     Rules        what document 02 says of open instants
pub mod Ranks
pub mod Shown
pub mod Given
pub mod Found
pub mod Numbers
pub mod Risen
pub mod Rules

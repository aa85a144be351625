-- The walks over two rows.
--     Places       an instant of two rows, and what it says to a walk
--     Sides        a granule lies in another on one side of a place
--     First        where a walk over a granule begins
--     Seen         what an instant says to a walk over a granule for those that it meets
pub mod Places
pub mod Sides
pub mod First
pub mod Seen

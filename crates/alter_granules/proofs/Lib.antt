-- What the proofs of alter rest on.
--     Beginnings   where a coarse granule begins, and where the next one does
--     Residues     which integers a number divides after some steps
--     Shortness    check 10, by the lengths of coarse granules
--     Passes       a pass over coarse granules
--     Tiled        the altered granules: how f rises, and the granule that has a fine one
--     Reach        how large n and D are, and how far the walk over b goes
--     Walking      the walk over b, one altered granule on
--     Sought       a walk over the instants of a row
--     Sized        how large the numbers are with which the walk starts
--     Started      the walk with which a scan starts
--     Followed     where a scan is, as it starts, at later instants and behind a step
pub mod Beginnings
pub mod Residues
pub mod Shortness
pub mod Passes
pub mod Tiled
pub mod Reach
pub mod Walking
pub mod Sought
pub mod Sized
pub mod Started
pub mod Followed

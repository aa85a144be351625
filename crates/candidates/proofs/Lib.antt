-- The laws that the tallies rest on.
--     Positions    the members of a rising list at positions in a row
--     Tallying     a tally with one member more
--     Candidates   the walk over a granule of b that finds the granules in question
pub mod Positions
pub mod Tallying
pub mod Candidates

-- The granules of a row in question for one granule of another.
--     Tallies      which they are, and the walk that counts them
pub mod Tallies

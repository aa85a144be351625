-- The parts of a granule.
--     Walk         the walk over a granule for its parts
pub mod Walk

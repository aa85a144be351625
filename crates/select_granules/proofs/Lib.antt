-- The laws that selecting rests on.
--     Holding      a granule holds a whole granule of the other row exactly if a tally finds one
--     Starts       where Pick starts, and that a tally from there says what it takes
--     Decisions    which granules of b count for a granule of a
--     Meetings     a walk over a granule of a for the granules of b that it meets
pub mod Holding
pub mod Starts
pub mod Decisions
pub mod Meetings

-- The laws that the questions rest on.
--     Casts        numbers that are cast
--     Checks       the reply of `down`, check by check
--     Lateness     lateness: when each reply is given
--     Placed       up from an instant: how large a place is
--     Shortest     the least period: when each reply is given
--     WithGranules figures: when each answer is given
--     Examples     lateness on a granule with a gap, and figures of a row that isn't least
pub mod Casts
pub mod Checks
pub mod Lateness
pub mod Placed
pub mod Shortest
pub mod WithGranules
pub mod Examples

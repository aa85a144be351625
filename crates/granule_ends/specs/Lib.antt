-- The ends of a granule.
--     Ends         the end in a direction
pub mod Ends

-- The laws that the ends of granules and the places in them rest on.
--     Inputs       what a walk is given, as the machine has it
--     Walks        a walk to the first or the last instant of a granule
--     Places       what a walk back has counted
pub mod Inputs
pub mod Walks
pub mod Places

-- The laws that the walks rest on.
--     Places       the instant of a cursor, the place of an instant, and a step
--     Steps        what an instant says to a walk
--     Sides        the granule of a place lies in another on one side of it
--     Walks        a walk to one side of a place
--     Holders      the granule that holds another
pub mod Places
pub mod Steps
pub mod Sides
pub mod Walks
pub mod Holders

-- What selecting remembers of granules, and how it looks at them.
--     Memos        what a scan remembers
--     Deciding     a granule that is decided
--     Meeting      a walk over a granule for the granules that it meets
pub mod Memos
pub mod Deciding
pub mod Meeting

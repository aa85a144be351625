-- What the code of alter cites beside document 01's definitions.
--     Given        what alter is given, and what is written before an instant
--     CoarseBegins where a coarse granule begins
--     Short        granules that altering would empty
--     Follows      where a scan is among the altered granules
pub mod Given
pub mod CoarseBegins
pub mod Short
pub mod Follows

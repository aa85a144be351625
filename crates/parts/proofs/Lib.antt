-- The laws that the walk for the parts of a granule rests on.
--     Shown        a list of zeros with some numbers in front
--     WalkGaps     the walks over a gap to the label beside it
--     Walk         the walk over a granule for its parts: where it stands and its steps
--     WalkEnds     how that walk ends
pub mod Shown
pub mod WalkGaps
pub mod Walk
pub mod WalkEnds

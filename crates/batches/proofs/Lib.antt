-- Questions in batches.
--     Fronts       answers that are written one by one over the front of a list
--     Lefts        room in the lent lists, and what is left in each
pub mod Fronts
pub mod Lefts

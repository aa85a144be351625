-- Why the sizes that the code computes are those of document 01.
--     Whole        group's working period with no product before the division
--     Multiples    alter's n and D: how they are computed, and their bounds
--     Altered      alter's working period and its distance
pub mod Whole
pub mod Multiples
pub mod Altered

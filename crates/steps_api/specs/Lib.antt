-- Walks in plain numbers.
--     Codes        what a call answers, and the numbers of a state
--     Held         the walk that a state holds
--     Told         what a function answers, and leaves
pub mod Codes
pub mod Held
pub mod Told

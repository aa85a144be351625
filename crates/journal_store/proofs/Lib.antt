-- What the proofs use.
--     Steps        what a step over a window tells
pub mod Steps

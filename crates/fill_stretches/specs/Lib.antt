-- Stretches of a working row.
--     Stretch      what a stretch is given, and what it leaves
pub mod Stretch

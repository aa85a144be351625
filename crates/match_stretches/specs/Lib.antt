-- Stretches of a claimed row.
--     Stretch      what a stretch is given, and what it tells
pub mod Stretch

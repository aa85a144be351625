-- The laws that the loop of alter rests on.
--     Repeated     n and D of document 01
--     Scans        what is found at an instant
--     Loops        what holds between two stretches
pub mod Repeated
pub mod Scans
pub mod Loops

-- The conversion in steps (document 02, Req 09).
--     Walk         the state of a walk; its start and a call
--     Runs         calls one after the other
--     Demands      what demands 2 and 3 read where the caller changed the lists
pub mod Walk
pub mod Runs
pub mod Demands

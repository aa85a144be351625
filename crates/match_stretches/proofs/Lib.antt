-- The laws of stretches of a claimed row.
--     Rows         a sound row of a pool, as it is lent to a call
--     Passing      the instants of a stretch, one by one
--     Stretching   a stretch of a loop that compares a claimed row; what its end says
--     Stages       what holds between two stretches
pub mod Rows
pub mod Passing
pub mod Stretching
pub mod Stages

-- The laws of stretches.
--     Growing      the pool as a stretch is filled, instant by instant
--     OneCell      a stretch along a row of one cell
--     Stretching   a stretch of a loop that fills a working row; what its end says
--     Stages       what holds between two stretches
pub mod Growing
pub mod OneCell
pub mod Stretching
pub mod Stages

-- The least form of a row in a slice.
--     Cells        cells that repeat with a rise
--     Divisors     the greatest divisor up to a number
--     Row          the least period of a row that is handed in
pub mod Cells
pub mod Divisors
pub mod Row

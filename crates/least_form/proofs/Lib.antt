-- The laws of the search for the least period.
--     Cells        one cell repeats another with a rise
--     Divisors     the divisors of a number, from the greatest down
--     Common       gcd(P, N, R) of a row
--     Turns        a row is so many turns of its least row, and the cells alone tell how many
--     Small        numbers of a row, and products that fit
--     Trying       the divisors that are tried, and the test of one
--     Search       the search over the divisors, step by step
pub mod Cells
pub mod Divisors
pub mod Common
pub mod Turns
pub mod Small
pub mod Trying
pub mod Search

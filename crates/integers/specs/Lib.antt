-- Integers that round down and up, common divisors, capped numbers.
--     Parts        what an integer has above zero and below
--     Floor        division rounded down, with its remainder, and rounded up
--     Gcd          greatest common divisor, least common multiple
--     Capped       a number that is at most a cap
pub mod Parts
pub mod Floor
pub mod Gcd
pub mod Capped

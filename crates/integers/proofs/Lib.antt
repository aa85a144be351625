-- The laws of the integers, and how facts on them are proved.
--     Difference   an integer as a difference of two naturals
--     Linear       `simp ints (omega arith)`: linear facts and identities of rings, over the integers
--     Order        the order is total and decided; products and the order
--     Floor        division rounded down, with its remainder, and rounded up
--     Divisors     gcd, lcm, Bezout's equation
--     Periods      the periods of a function on the integers
--     Cap          a number that is at most a cap: its two cases
--     Machine      `simp plain`: what a need says of signed integers, in plain terms
--     Divide       the machine's division and remainder, rounded down and up
pub mod Difference
pub mod Linear
pub mod Order
pub mod Floor
pub mod Divisors
pub mod Periods
pub mod Cap
pub mod Machine
pub mod Divide

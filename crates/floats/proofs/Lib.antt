-- What binary64 numbers say of the exact numbers. The laws are over either format of IEEE 754 where nothing of binary64 is used.
--     Whole        a whole number as a float: nothing is lost
--     Compare      the order of two floats is that of the fractions that they equal
--     Product      the product of a float with few digits and a whole number is exact
--     Remainder    the remainder by a power of two below 1 is exact
--     Division     the quotient of two whole numbers: its error, and the exact case
--     Words        the words of the contracts: what each test of the code comes to
--     Parts        a share by its 256ths
--     Examples     allowances, lateness and figures by computation
pub mod Whole
pub mod Compare
pub mod Product
pub mod Remainder
pub mod Division
pub mod Words
pub mod Parts
pub mod Examples

-- Rows that stand in lent lists.
--     Standing     the test that lists hold rows and nothing else, and what it decides
--     Tests        the same in the parts that the code takes
pub mod Standing
pub mod Tests

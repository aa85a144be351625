-- The laws that entering the row of an entry rests on.
--     Numbers      numbers as the machine casts them
--     Cells        lists in parts, and the numbers of headings
--     Standing     the operand of a heading is its row, with its granules
--     Parts        an operand, as the machine takes it apart
--     Shortening   the least row of a working row
--     Sounds       what holds of the operation of a kind over sound rows
--     Admitted     an operation that has passed the checks before its working row is made
--     Filled       its working row, filled in behind the rows of a pool
--     Writing      what holds before that row is filled in, and behind
--     AtRows       the operation that an entry names, over the rows of the pool
pub mod Numbers
pub mod Cells
pub mod Standing
pub mod Parts
pub mod Shortening
pub mod Sounds
pub mod Admitted
pub mod Filled
pub mod Writing
pub mod AtRows

-- The laws that the loops rest on.
--     Points       what a scan of sound rows has at its instant
--     Single       a kind with one operand, which it is given twice
--     Cells        the cells of a pool
--     Working      the working row as it is filled in
--     Filling      what holds in a loop that fills it in, for any kind
--     Steps        the step of a loop over two operands
--     Cursors      the cursor of an instant, as a loop over a pool holds it
--     Lasts        the last label up to an instant
--     Before       a walk back to the last label before the instant 0
pub mod Points
pub mod Single
pub mod Cells
pub mod Working
pub mod Filling
pub mod Steps
pub mod Cursors
pub mod Lasts
pub mod Before

-- The laws that the passes over the cells of a row rest on.
--     Instants     an instant with a label, by the row's own cells
--     Finding      the first cell that fails a test, as the library finds it
--     Leading      the first label of a row
--     Order        check 13: labels that never fall, by the first and the last of them; the numbers before them
pub mod Instants
pub mod Finding
pub mod Leading
pub mod Order

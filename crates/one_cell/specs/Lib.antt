-- A row of one cell.
--     Along        a row whose labels are those of a row of one cell
--     Serves       a row of one cell whose labels are within the limits
pub mod Along
pub mod Serves

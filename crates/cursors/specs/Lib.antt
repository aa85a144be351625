-- The functions on rows.
--     Found        what they answer, and the rows they are about
--     Cursor       the cursor of an instant
--     Direction    back or on
--     Search       the places of cells, cell by cell
pub mod Found
pub mod Cursor
pub mod Direction
pub mod Search

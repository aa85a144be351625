-- The laws that the functions on rows rest on.
--     Numbers      what check 13 says of the period, the distance and the cells
--     Cells        a cell that is read, and its label
--     Cursors      the cursor of an instant: its bounds, its steps and its label
--     Bounds       how far labels and the ends of granules are from an instant
--     Direction    how far an instant is from another, back or on
--     Search       a search cell by cell
pub mod Numbers
pub mod Cells
pub mod Cursors
pub mod Bounds
pub mod Direction
pub mod Search

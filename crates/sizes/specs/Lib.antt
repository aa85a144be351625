-- What the code on sizes cites beside document 01's definitions.
--     Stored       the turn of a stored row, and limits
--     Altered      alter's working period and distance, from n and D
pub mod Stored
pub mod Altered

-- Rows gone over piece by piece.
--     Places       the places of instants in a row
pub mod Places

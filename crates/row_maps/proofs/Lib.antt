-- The laws of the map of a row.
--     Packed       the bits of a packed number
--     Written      a list with f at each index
--     Shows        the map of a row shows its labelled instants
--     Joined       a map made from a row answers of the row's labelled instants
pub mod Packed
pub mod Written
pub mod Shows
pub mod Joined

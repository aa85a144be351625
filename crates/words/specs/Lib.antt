-- Words of 64 bits.
--     Bits         the bits of a word and the cells of a list of words, counted
--     Places       the least and the greatest set place
pub mod Bits
pub mod Places

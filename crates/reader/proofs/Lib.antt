-- What the proofs of the methods share.
--     Fields       a reader and its fields: machine values, types, and what they own
--     Turned       the order of lifetimes in `down` and `open_map`
pub mod Fields
pub mod Turned

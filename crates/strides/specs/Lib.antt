-- Strides over the instants of a row.
--     Changes      the next instant with another label
pub mod Changes

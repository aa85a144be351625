-- The laws that strides rest on.
--     Changes      the next instant with another label, in the turn and in the next
--     Strides      a stride of many instants
pub mod Changes
pub mod Strides

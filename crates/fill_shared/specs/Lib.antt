-- The loops that fill a working row.
--     Fillable     what a loop is given, and what it has written
--     Placed       where a working row is filled in, and what its labels are
pub mod Fillable
pub mod Placed

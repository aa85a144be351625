-- What the theorems on the computed conversion are about.
--     TableMeaning     the meaning of a table, over calendars alone
--     Represents       which row stands for which calendar
--     Factor           a factor is at least 1
--     Ready            an operation over rows that has passed its checks
--     Agrees           when a computed outcome is what the table means
pub mod TableMeaning
pub mod Represents
pub mod Factor
pub mod Ready
pub mod Agrees

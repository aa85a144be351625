-- The conversion in steps, in code.
--     State        the state of the code in the terms of the definitions, and the contract of `start` and `step`
pub mod State

-- Open maps in plain numbers.
--     Codes        what making a map answers
--     StepCodes    what a step answers, and leaves
pub mod Codes
pub mod StepCodes

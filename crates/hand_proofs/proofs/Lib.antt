-- Lemmas on calls, parameters and lists that are written, for the proofs of functions.
--     Calls        calls by their contracts, and the contract of a function that is walked
--     Logic        what a walk names of the logic, by one module
--     Owned        what parameters own, and what is said of them at exit
--     Params       what is known of the machine values of parameters
--     Passed       a function that passes its arguments on to another, and returns its answer
--     Steps        steps of a walk
--     Written      a lent slice that is written in a loop
pub mod Calls
pub mod Logic
pub mod Owned
pub mod Params
pub mod Passed
pub mod Steps
pub mod Written

-- The conversion in steps.
--     Examples     case 12 in steps, and what a caller may change, by computation
--     Kept         an answered row is least, and means what the algebra says
--     Came         what a call may come to
--     Calls        a refusal, and an entry that is taken
--     States       states that the start or a call gave; demand 2 of one call
--     Changed      demands 2 and 3 where the caller changed the lists
--     Assembled    the table of the entries as they stood
--     Steps        lists left alone: the conversion of these entries
--     Done         when such a walk is done
--     Answered     such a walk is an answered table
pub mod Examples
pub mod Kept
pub mod Came
pub mod Calls
pub mod States
pub mod Changed
pub mod Assembled
pub mod Steps
pub mod Done
pub mod Answered

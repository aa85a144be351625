-- A claimed row beside the working row of a group, a shift or a renumbering.
--     Numbered     the number of a label, and what the loop keeps
pub mod Numbered

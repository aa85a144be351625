-- The check of finished headings and rows.
--     Multiples    a turn that is a whole number of turns
--     Right        when heading and row of an entry are right
--     Weighed      a claimed row beside the working row: what the comparison decides
--     Judging      an entry whose operands' rows are right
--     Table        the entries one after the other, and the rest
pub mod Multiples
pub mod Right
pub mod Weighed
pub mod Judging
pub mod Table

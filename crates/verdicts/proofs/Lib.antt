-- What the check of finished lists decides.
--     Begun        lists whose first headings and rows are right
--     Numbers      heading and row of an entry, number by number
--     Firsts       the conversion of the first entries, and how it goes on
--     Passing      the check entry by entry: what it finds, and how it passes over entries that are right
--     Checked      the verdicts by what our conversion comes to
--     Shown        lists that show the calendars of a table are the only ones of their lengths
--     Demands      acceptance and refusal by what the table means
--     LeftBy       the first headings and rows as a conversion would have left them
--     FirstShown   the first headings and rows are right exactly if they show the calendars of their entries
--     Prefix       the first entries of a table by themselves, and what they mean
--     Split        rows and their calendars, with one more behind
--     Meant        the verdict is the one that the table means
--     Examples     a finished list, right and changed
pub mod Begun
pub mod Numbers
pub mod Firsts
pub mod Passing
pub mod Checked
pub mod Shown
pub mod Demands
pub mod LeftBy
pub mod FirstShown
pub mod Prefix
pub mod Split
pub mod Meant
pub mod Examples

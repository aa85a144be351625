-- The check of finished headings and rows (document 02, Req 11).
--     Check        its verdict, as it is computed
--     Begins       lists whose first headings and rows are right, and the conversion of the first entries
--     Means        the verdict by what the table means
pub mod Check
pub mod Begins
pub mod Means

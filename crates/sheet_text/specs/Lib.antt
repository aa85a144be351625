-- What is printed for a text, and what writing it answers and leaves.
--     Lent         a text in a lent list
--     Prints       what is to be printed, by what the table means
--     Left         what is answered and left, as it is computed
pub mod Lent
pub mod Prints
pub mod Left

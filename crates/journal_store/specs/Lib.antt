-- What the parts of the program rely on.
--     Seen         what a look into a window, and the search, tell
pub mod Seen

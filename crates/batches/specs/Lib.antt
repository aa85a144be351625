-- Questions in batches.
--     Left         the answer of a batch, and a lent list after it
--     Front        answers over the front of a list
pub mod Left
pub mod Front

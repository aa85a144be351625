-- What the proofs of both functions use.
--     Numbers      a number of bytes as an answer
pub mod Numbers

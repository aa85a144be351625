-- A claimed row beside the working row of an operation (document 02, Req 11).
--     Matching   whether the claimed row has the labels of the result; checks 12 and 11
--     Claims     what a loop that compares them is given
--     Seen       what such a loop has seen between two turns
--     Ends       the first label of the working row, and the last one before it
pub mod Matching
pub mod Claims
pub mod Seen
pub mod Ends

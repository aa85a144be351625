-- A claimed row beside the altered granules.
--     Scanning     where the comparing is among them, and what its steps are given and find
pub mod Scanning

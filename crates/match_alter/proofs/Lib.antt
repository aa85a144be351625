-- The laws that comparing with the altered granules rests on.
--     Claims       a fine granule by the label of a claimed row D before
--     Scanned      what holds between two stretches
pub mod Claims
pub mod Scanned

-- The laws that the loops rest on.
--     Along        what holds between two granules of the row that leads, and behind the next one, for any kind
--     Lying        the label of combine at the instants of a granule
--     Combines     the loop of combine, between two granules of b
--     OwnTurn      combine along a row of one cell, as a shift by 0
--     Selects      the loop of a selection, between two granules of a
--     Instants     a selection from a row of one cell
--     Spreads      the granules of a row without gaps, and the cells that are written for one
--     Rounds       the loop of such a selection, between two granules of b
--     OneRow       what that loop is given
pub mod Along
pub mod Lying
pub mod Combines
pub mod OwnTurn
pub mod Selects
pub mod Instants
pub mod Spreads
pub mod Rounds
pub mod OneRow

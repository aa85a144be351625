-- The answer of the code for what converting a table comes to.
use Rattle.calendar.specs.Outcome.{Outcome}
use Rattle.calendar.specs.Outcome.Outcome.{refused_at, rows}
use Rattle.conversion.specs.Conversion.{Conversion, Refused, Converted}

-- "The answer holds the number and the entry (0 for 1 to 3)."
abbrev pub answered : Outcome → Conversion
answered (refused_at m k) = Refused m k
answered (rows l) = Converted

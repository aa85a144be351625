-- The declared types of this crate, in document 01's terms.
use Rattle.std.specs.Prelude.{ℕ}
use Rattle.integers.specs.Parts.{up}
use Rattle.calendar.specs.Meaning.{Row}
use Rattle.calendar.specs.declared.Calendar.{Calendar}
use Rattle.calendar.specs.declared.Refusal.{Refusal}
use Rattle.calendar.specs.declared.Refusal.TheVariants.{TableLength, TooFewHeadings, PoolTooLong, UnknownKind, OperandNotEarlier, NumberOutsideLimits, OperandNotFull, TooLong, NotAligned, GranuleEmptied, LabelOutsideLimits, NothingLabelled, RowNotSound, ArgumentOutsideLimits, NotALabel, PartsIncomplete, ListTooShort, AllowanceNotAllowed, TextNotAllowed, NoSuchDate}

-- the row of a calendar of the code
abbrev pub row_of_calendar : Calendar → Row
row_of_calendar c = record { period = up c.period; distance = up c.distance; cells = c.row }

-- the numbers of document 01's "When the desk says no"; 19 and 20 are document 02's
abbrev pub number_of : Refusal → ℕ
number_of TableLength = 1
number_of TooFewHeadings = 2
number_of PoolTooLong = 3
number_of UnknownKind = 4
number_of OperandNotEarlier = 5
number_of NumberOutsideLimits = 6
number_of OperandNotFull = 7
number_of TooLong = 8
number_of NotAligned = 9
number_of GranuleEmptied = 10
number_of LabelOutsideLimits = 11
number_of NothingLabelled = 12
number_of RowNotSound = 13
number_of ArgumentOutsideLimits = 14
number_of NotALabel = 15
number_of PartsIncomplete = 16
number_of ListTooShort = 17
number_of AllowanceNotAllowed = 18
-- Req 01: "Text that breaks the rules .. is the new refusal 19"
number_of TextNotAllowed = 19
-- Req 05: "a date that doesn't exist is refused under the new number 20"
number_of NoSuchDate = 20

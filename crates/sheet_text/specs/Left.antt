-- What writing a sheet answers and leaves in a lent list, as it is computed.
use Rattle.std.specs.Prelude.{◌≡◌, List, ℕ, Option}
use Rattle.calendar.specs.Lists.{filled}
use Rattle.table_text.specs.Sheet.{sheet}
use Rattle.sheet_text.specs.Lent.{written_in, whole_in}

-- the contract of `sheet`: its answer to the text s, and the list of m bytes afterwards, which holds the sheet with zeros behind it
pub record SheetLeft (s : List ℕ) (m : ℕ) (r : Option ℕ) (out : List ℕ) : Type 0 where
  pub answer : r ≡ written_in m (sheet s)
  pub bytes : out ≡ filled m 0 (whole_in m (sheet s))

-- A text in a lent list: how many bytes it takes, and whether the list holds it.
use Rattle.std.specs.Prelude.{cond, List, [], ℕ, leb, length, None, Option, Some}

-- no sheet is longer: 4,096 cells of at most 12 bytes each, and 64 lines with at most 10 bytes beside their cells
abbrev pub sheet_limit : ℕ
sheet_limit = 49792

-- how many of m bytes the text takes
abbrev pub written_in : ℕ → List ℕ → Option ℕ
written_in m text = cond (leb (length text) m) (Some (length text)) None

-- the text where m bytes hold it, and otherwise nothing
abbrev pub whole_in : ℕ → List ℕ → List ℕ
whole_in m text = cond (leb (length text) m) text []

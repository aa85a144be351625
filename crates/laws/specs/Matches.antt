-- What it is for an entry of a table to match a term (document 01: "The two sides of a law are two entries, in one table or in two; a side that is
-- only an operand is that operand's own entry. An operand .. means the same calendar on both sides and wherever else it stands in the law, though it may be
-- another entry there.").
use Rattle.std.specs.Prelude.{◌≡◌, List, ℕ, ℤ, get_or}
use Rattle.calendar.specs.Meaning.{Row, Calendar, Same, bottom_row}
use Rattle.calendar.specs.Operation.{Operation}
use Rattle.calendar.specs.Reply.Reply.{answer}
use Rattle.calendar.specs.Table.{entry_at, named}
use Rattle.algebra.specs.TableMeaning.{Meant, nothing}
use Rattle.laws.specs.Terms.{Term}
use Rattle.laws.specs.Terms.Term.{operand, bottom, unary, binary}

-- the calendar that entry k means, where the entries of the table mean ms
abbrev pub calendar_at : List Meant → ℕ → Calendar
calendar_at ms k = (get_or ms k nothing).calendar

-- entry k of the table t is the term's outermost operation over entries that match its parts; v gives the operands
abbrev pub Matches : List ℤ → List Meant → (ℕ → Calendar) → Term → ℕ → Type 0
Matches t ms v (operand n) k = Same (calendar_at ms k) (v n)
Matches t ms v bottom k = named k (entry_at t k) ≡ answer Operation.bottom
Matches t ms v (unary u s) k = (i : ℕ) × (named k (entry_at t k) ≡ answer (Operation.unary u i)) × Matches t ms v s i
Matches t ms v (binary o s s') k =
    (i : ℕ) × (j : ℕ) × (named k (entry_at t k) ≡ answer (Operation.binary o i j)) × Matches t ms v s i × Matches t ms v s' j

-- "Its row is then the period and distance in its heading and that many cells as the period says, from its start on; the
-- start isn't compared."
abbrev pub EqualRows : Row → Row → Type 0
EqualRows r s = (r.period ≡ s.period) × (r.distance ≡ s.distance) × (r.cells ≡ s.cells)

abbrev pub row_at : List Row → ℕ → Row
row_at rs k = get_or rs k bottom_row

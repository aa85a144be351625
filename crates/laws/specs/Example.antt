-- Examples of a law: two entries of answered tables that match its sides; two entries that are refused.
use Rattle.std.specs.Prelude.{◌≡◌, List, [], ◌∷◌, map, ℕ, ◌<◌, ℤ, length, get_or}
use Rattle.std.proofs.Math.Option.{Option, some}
use Rattle.std.proofs.Math.ListN.{get_elem?}
use Rattle.calendar.specs.Limits.{entry_limit}
use Rattle.calendar.specs.Meaning.{Row, Calendar, Same}
use Rattle.calendar.specs.Operation.{SetOperation}
use Rattle.calendar.specs.Outcome.{outcome}
use Rattle.calendar.specs.Outcome.Outcome.{refused_at, rows}
use Rattle.algebra.specs.TableMeaning.{Meant}
use Rattle.laws.specs.Terms.{Term}
use Rattle.laws.specs.Laws.{Law, LabelLaw}
use Rattle.laws.specs.Commutes.{Swapped}
use Rattle.laws.specs.Matches.{calendar_at, Matches}
use Rattle.laws.specs.Answered.{Answered}

-- headings and cells that are enough for each example
abbrev pub example_headings : ℕ
example_headings = entry_limit

abbrev pub example_pool : ℕ
example_pool = 200

-- the rows of the entries ks, where the table is answered
unfoldable pub rows_in : List ℤ → List ℕ → List (Option Row)
unfolding outcome
rows_in t ks = elim (outcome t example_headings example_pool) [ refused_at m k ↦ [] | rows l ↦ map (get_elem? l) ks ]

-- an answered table with an entry that matches the term s, over entries for its operands; the rows of all these
pub record Side (s : Term) (operand_rows : List Row) (row : Row) : Type 0 where
  pub table : List ℤ
  pub entry : ℕ
  pub operands : List ℕ
  pub stored : rows_in table (entry ∷ operands) ≡ map some (row ∷ operand_rows)
  pub matches : (ms : List Meant) (v : ℕ → Calendar) → ((n : ℕ) → Same (calendar_at ms (get_or operands n entry)) (v n)) → Matches table ms v s entry

-- both sides of a law, over operands with the same rows
pub record Example {s s' : Term} (law : Law s s') (operand_rows : List Row) (row : Row) : Type 0 where
  pub left : Side s operand_rows row
  pub right : Side s' operand_rows row

-- all that demand 3 asks of two entries that match the sides of a law
pub record Applies {s s' : Term} (law : Law s s') : Type 0 where
  pub x : Answered
  pub y : Answered
  pub k : ℕ
  pub l : ℕ
  pub k-answered : k < length x.meanings
  pub l-answered : l < length y.meanings
  pub v : ℕ → Calendar
  pub left : Matches x.table x.meanings v s k
  pub right : Matches y.table y.meanings v s' l

-- both sides of a law of labels, entries of one answered table, each with its own row
pub record LabelExample {s s' : Term} (law : LabelLaw s s') (left_row right_row : Row) : Type 0 where
  pub table : List ℤ
  pub left : ℕ
  pub right : ℕ
  -- the entry of each operand
  pub operand : ℕ → ℕ
  pub stored : rows_in table (left ∷ right ∷ []) ≡ map some (left_row ∷ right_row ∷ [])
  pub left-matches : (ms : List Meant) → Matches table ms (λ n. calendar_at ms (operand n)) s left
  pub right-matches : (ms : List Meant) → Matches table ms (λ n. calendar_at ms (operand n)) s' right

-- two tables whose entries k have changed operands, each refused there with n in a pool of p cells
pub record SwapExample (s : SetOperation) (t t' : List ℤ) (k p n : ℕ) : Type 0 where
  pub swapped : Swapped s k t t'
  pub one : outcome t example_headings p ≡ refused_at n k
  pub other : outcome t' example_headings p ≡ refused_at n k

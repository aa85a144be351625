-- Demand 3 over the definitions: answered entries mean the same calendar exactly if their rows are equal; so every law holds on the stored rows.
use mathlib.Core.Path.{sym, ◌∙◌, ap, subst, fun_ext}
use mathlib.Core.Logic.{◌↔◌, inl, inr}
use mathlib.Core.List.{List}
use Prim.Native.Nat.{ℕ, ◌<◌}
use native.Mathlib.Omega.{arith}
use lib.IntN.{ℤ}
use lib.ListN.{length}
use Rattle.calendar.specs.Meaning.{Calendar, Same, Has, IsCalendar}
use Rattle.calendar.specs.Operation.{Operation}
use Rattle.calendar.specs.Table.{entry_at}
use Rattle.algebra.specs.TableMeaning.{Meant}
use Rattle.algebra.proofs.Named.{named-operation}
use Rattle.granules.proofs.Equal.{equal-rows}
use Rattle.laws.specs.Terms.{Term, Value, Occurs}
use Rattle.laws.specs.Terms.Term.{operand, bottom, unary, binary}
use Rattle.laws.specs.Laws.{Law, LabelLaw}
use Rattle.laws.specs.Matches.{Matches, calendar_at, EqualRows, row_at}
use Rattle.laws.specs.Answered.{Answered}
use Rattle.laws.proofs.Algebra.{law-holds, label-law-holds}
use Rattle.laws.proofs.Answered.{stored-represents}
use Rattle.laws.proofs.Entries.{EntryDefined, table-defined}

-- (a) two answered entries, of one table or of two, mean the same calendar exactly if period, distance and cells are equal
pub demand-3-rows : (x y : Answered) (k l : ℕ) → k < length x.meanings → l < length y.meanings
    → Same (calendar_at x.meanings k) (calendar_at y.meanings l) ↔ EqualRows (row_at x.stored k) (row_at y.stored l)
demand-3-rows x y k l h h' =
    let r = stored-represents x k h in
    equal-rows (calendar_at x.meanings k) (calendar_at y.meanings l) (row_at x.stored k) (row_at y.stored l) r.calendar r.least
    (stored-represents y l h').least

-- the calendar of an entry that matches a term is a value of the term
module _ (t : List ℤ) (ms : List Meant) (defined : (k : ℕ) → k < length ms → EntryDefined t ms k) (v : ℕ → Calendar) where
  matches-value : (s : Term) (k : ℕ) → k < length ms → Matches t ms v s k → Value v s (calendar_at ms k)
  matches-value (operand n) k h m = m
  matches-value bottom k h m = defined k h Operation.bottom m
  matches-value (unary u s) k h (i, e, m) =
      let o = Operation.unary u i in
      let l = (named-operation k (entry_at t k) o e).1 in
      (calendar_at ms i, matches-value s i (omega arith) m, defined k h o e)
  matches-value (binary b s s') k h (i, j, e, m, m') =
      let o = Operation.binary b i j in
      let l = (named-operation k (entry_at t k) o e).1 in
      (calendar_at ms i, calendar_at ms j, matches-value s i (omega arith) m, matches-value s' j (omega arith) m', defined k h o e)

-- each operand that stands in a term with a matching entry is a calendar
module _ (t : List ℤ) (ms : List Meant) (calendar : (k : ℕ) → k < length ms → IsCalendar (calendar_at ms k)) (v : ℕ → Calendar) where
  matches-calendar : (s : Term) (k : ℕ) → k < length ms → Matches t ms v s k → (n : ℕ) → Occurs n s → IsCalendar (v n)
  matches-calendar (operand m) k h e n o = subst IsCalendar (fun_ext e ∙ ap v (sym o)) (calendar k h)
  matches-calendar bottom k h m n o = absurd o
  matches-calendar (unary u s) k h (i, e, m) n o =
      let l = (named-operation k (entry_at t k) (Operation.unary u i) e).1 in
      matches-calendar s i (omega arith) m n o
  matches-calendar (binary b s s') k h (i, j, e, m, m') n (inl o) =
      let l = (named-operation k (entry_at t k) (Operation.binary b i j) e).1 in
      matches-calendar s i (omega arith) m n o
  matches-calendar (binary b s s') k h (i, j, e, m, m') n (inr o) =
      let l = (named-operation k (entry_at t k) (Operation.binary b i j) e).1 in
      matches-calendar s' j (omega arith) m' n o

-- (b) entries that match the two sides of a law have equal rows
pub demand-3-laws : (x y : Answered) (k l : ℕ) → k < length x.meanings → l < length y.meanings
    → (s s' : Term) → Law s s' → (v : ℕ → Calendar)
    → Matches x.table x.meanings v s k → Matches y.table y.meanings v s' l → EqualRows (row_at x.stored k) (row_at y.stored l)
demand-3-laws x y k l h h' s s' law v m m' =
    (demand-3-rows x y k l h h').0
    (law-holds s s' law v (matches-calendar x.table x.meanings (λ k h. (stored-represents x k h).calendar) v s k h m) (calendar_at x.meanings k) (calendar_at y.meanings l)
    (matches-value x.table x.meanings (table-defined x.means) v s k h m)
    (matches-value y.table y.meanings (table-defined y.means) v s' l h' m'))

-- (c) entries that match the two sides of a law of labels have the same labels
pub demand-3-labels : (x y : Answered) (k l : ℕ) → k < length x.meanings → l < length y.meanings
    → (s s' : Term) → LabelLaw s s' → (v : ℕ → Calendar)
    → Matches x.table x.meanings v s k → Matches y.table y.meanings v s' l
    → (j : ℤ) → Has (calendar_at x.meanings k) j ↔ Has (calendar_at y.meanings l) j
demand-3-labels x y k l h h' s s' law v m m' =
    label-law-holds s s' law v (calendar_at x.meanings k) (calendar_at y.meanings l)
    (matches-value x.table x.meanings (table-defined x.means) v s k h m)
    (matches-value y.table y.meanings (table-defined y.means) v s' l h' m')

-- the same of calendars that are the same as these
pub labels-through : (c d c' d' : Calendar) → Same c' c → Same d' d → ((j : ℤ) → Has c j ↔ Has d j) → (j : ℤ) → Has c' j ↔ Has d' j
labels-through c d c' d' e f h j = rw (fun_ext e, fun_ext f) (h j)

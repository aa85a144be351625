-- Demands 2 and 3 on what `convert` leaves in its lists, from its contract alone: of any table, lists of any lengths and any former content.
-- Assumes nothing.
use mathlib.Core.Path.{◌≡◌, refl, sym, ◌∙◌, ap}
use mathlib.Core.Logic.{◌↔◌}
use mathlib.Core.List.{List}
use Prim.Native.Nat.{ℕ, ◌/◌, ◌<◌}
use native.Mathlib.Omega.{arith}
use lib.IntN.{ℤ}
use lib.ListN.{length, get_or}
use Rattle.calendar.specs.Limits.{heading_length}
use Rattle.calendar.specs.Meaning.{Row, Calendar, Same}
use Rattle.calendar.specs.Granules.{granules}
use Rattle.calendar.specs.Outcome.{Outcome, outcome}
use Rattle.calendar.specs.Outcome.Outcome.{rows}
use Rattle.calendar.specs.Stored.{pool_after, headings_after}
use Rattle.granules.proofs.Equal.{row-ext, equal-rows}
use Rattle.algebra.specs.TableMeaning.{Meant, nothing, TableReply, TableMeans}
use Rattle.algebra.specs.TableMeaning.TableReply.{refused_at, means}
use Rattle.algebra.specs.Represents.{Represents}
use Rattle.algebra.specs.Agrees.{Agrees}
use Rattle.algebra.proofs.Demand2 as definitions
use Rattle.laws.specs.Terms.{Term}
use Rattle.laws.specs.Laws.{Law}
use Rattle.laws.specs.Matches.{Matches, calendar_at}
use Rattle.laws.specs.Answered.{Answered}
use Rattle.laws.proofs.Demand3 as laws
use Rattle.conversion.specs.Conversion.{Conversion, Converted}
use Rattle.conversion.specs.Answers.{answered}
use Rattle.conversion.specs.Shows.{granules_at, ShowsRows, Shows}
use Rattle.conversion.specs.Left.{Left, ConvertedTable, row_of}
use Rattle.conversion.proofs.LeftRows.{means-length, labels-counted, shows-refusal, shows-rows}

-- ---- demand 2

-- whatever a table means is shown by the answer and the lists
pub demand-2-only : (t : List ℤ) (h p : ℕ) (c : Conversion) (headings : List ℕ) (pool : List ℤ) → Left t h p c headings pool
    → (m : TableReply) → TableMeans t (h / heading_length) p m → Shows m h p c headings pool
demand-2-only t h p c headings pool left m a =
    rw (left.answer, left.numbers, left.cells) (by m (outcome t (h / heading_length) p) refl a (definitions.demand-2-only t (h / heading_length) p m a))
  where
    by : (m : TableReply) (o : Outcome) → outcome t (h / heading_length) p ≡ o → TableMeans t (h / heading_length) p m → Agrees m o → Shows m h p (answered o) (headings_after h o) (pool_after p o)
    by (refused_at n k) (Outcome.refused_at n' k') e m (x, y) = rw (x, y) (shows-refusal n' k' h p)
    by (refused_at n k) (Outcome.rows l) e m x = absurd x
    by (means ms) (Outcome.refused_at n' k') e m x = absurd x
    by (means ms) (Outcome.rows l) e m x = shows-rows t h p l e ms m x

-- and each table means something
pub demand-2 : (t : List ℤ) (h p : ℕ) (c : Conversion) (headings : List ℕ) (pool : List ℤ) → Left t h p c headings pool
    → (m : TableReply) × TableMeans t (h / heading_length) p m × Shows m h p c headings pool
demand-2 t h p c headings pool left =
    let d = definitions.demand-2 t (h / heading_length) p in
    (d.0, d.1, demand-2-only t h p c headings pool left d.0 d.1)

-- ---- demand 3

-- a table that is answered means a calendar for each of its entries
pub converted-means : (t : List ℤ) (h p : ℕ) (headings : List ℕ) (pool : List ℤ) → Left t h p Converted headings pool
    → (ms : List Meant) × TableMeans t (h / heading_length) p (means ms) × (length ms ≡ length t / 6)
converted-means t h p headings pool left =
    let d = demand-2 t h p Converted headings pool left in
    by d.0 d.1 d.2
  where
    by : (m : TableReply) → TableMeans t (h / heading_length) p m → Shows m h p Converted headings pool
        → (ms : List Meant) × TableMeans t (h / heading_length) p (means ms) × (length ms ≡ length t / 6)
    by (refused_at n k) m s = let z : ◌≡◌ {A = ℕ} 0 1 = cc s.answer in absurd (omega arith)
    by (means ms) m s = (ms, m, (means-length m).0)

-- its lists show that
shown : (x : ConvertedTable) → ShowsRows x.meanings x.h x.p Converted x.headings x.pool
shown x = demand-2-only x.table x.h x.p Converted x.headings x.pool x.left (means x.meanings) x.means

pub represented : (x : ConvertedTable) (k : ℕ) → k < length x.meanings → Represents (get_or x.meanings k nothing) (row_of x k)
represented x = (shown x).rows

-- the fourth number of a heading is R of its row
counted : (x : ConvertedTable) (k : ℕ) → k < length x.meanings → granules_at x.headings k ≡ granules (row_of x k)
counted x k h = labels-counted (get_or x.meanings k nothing) (row_of x k) (represented x k h) (granules_at x.headings k) ((shown x).granules k h)

-- two answered entries, of one table or of two, mean the same calendar exactly if their rows are equal: period, distance, cells and the fourth
-- number
pub demand-3 : (x y : ConvertedTable) (k l : ℕ) → k < length x.meanings → l < length y.meanings
    → Same (calendar_at x.meanings k) (calendar_at y.meanings l)
    ↔ ((row_of x k ≡ row_of y l) × (granules_at x.headings k ≡ granules_at y.headings l))
demand-3 x y k l h h' =
    let r = represented x k h in
    let e = equal-rows (calendar_at x.meanings k) (calendar_at y.meanings l) (row_of x k) (row_of y l) r.calendar r.least (represented y l h').least in (
      λ same. let (p, n, q) = e.0 same in
          let alike = row-ext (row_of x k) (row_of y l) p n q in
          (alike, counted x k h ∙ ap granules alike ∙ sym (counted y l h')),
      λ (same, count). e.1 (ap (λ (r : Row). r.period) same, ap (λ (r : Row). r.distance) same, ap (λ (r : Row). r.cells) same),
    )

-- the same table over the definitions, with the rows that are stored
pub stored : (x : ConvertedTable) → (l : List Row) × (outcome x.table (x.h / heading_length) x.p ≡ rows l)
stored x = by (outcome x.table (x.h / heading_length) x.p) x.left.answer
  where
    by : (o : Outcome) → Converted ≡ answered o → (l : List Row) × (o ≡ rows l)
    by (Outcome.refused_at n k) e = let z : ◌≡◌ {A = ℕ} 0 1 = cc in absurd (omega arith)
    by (Outcome.rows l) e = (l, refl)

abbrev pub defined : ConvertedTable → Answered
defined x = record {
  table = x.table;
  headings = x.h / heading_length;
  pool = x.p;
  meanings = x.meanings;
  stored = (stored x).0;
  means = x.means;
  stores = (stored x).1;
}

-- entries that match the two sides of a law have equal rows: period, distance, cells and the fourth number
pub demand-3-laws : (x y : ConvertedTable) (k l : ℕ) → k < length x.meanings → l < length y.meanings
    → (s s' : Term) → Law s s' → (v : ℕ → Calendar)
    → Matches x.table x.meanings v s k → Matches y.table y.meanings v s' l
    → (row_of x k ≡ row_of y l) × (granules_at x.headings k ≡ granules_at y.headings l)
demand-3-laws x y k l h h' s s' law v m m' =
    (demand-3 x y k l h h').0
    ((laws.demand-3-rows (defined x) (defined y) k l h h').1 (laws.demand-3-laws (defined x) (defined y) k l h h' s s' law v m m'))

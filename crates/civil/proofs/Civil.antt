-- The months and years of the table are those of the Gregorian rule, at every instant.
use mathlib.Core.Path.{◌≡◌, refl, sym, ◌∙◌, ap}
use mathlib.Core.Option.{some}
use mathlib.Core.List.{List}
use Prim.Native.Nat.{ℕ, ◌≤◌, ◌<◌}
use native.Mathlib.Omega.{arith}
use lib.IntN.{ℤ, pos, ◌+ℤ◌, ◌-ℤ◌, ◌*ℤ◌}
use lib.ListN.{get_or}
use lib.Signed.{◌≤ℤ◌}
use Rattle.integers.proofs.Linear.{ints, ◌∴◌}
use Rattle.integers.proofs.Order.{≤ℤ-trans}
use Rattle.calendar.specs.Limits.{pool_limit}
use Rattle.calendar.specs.Meaning.{Calendar, Row, bottom_row}
use Rattle.calendar.specs.Size.{Turn}
use Rattle.calendar.specs.Outcome.{Outcome, outcome}
use Rattle.calendar.specs.Outcome.Outcome.{refused_at, rows}
use Rattle.algebra.specs.TableMeaning.{Meant, nothing, TableMeans}
use Rattle.algebra.specs.TableMeaning.TableReply.{means}
use Rattle.algebra.specs.Represents.{Represents}
use Rattle.algebra.specs.Agrees.{Agrees}
use Rattle.algebra.proofs.Demand2.{demand-2-only, represents-length, represents-at}
use Rattle.algebra.proofs.Tiles.{first-mono}
use Rattle.civil.specs.Rule.{date, steps, date_of, months, years, month_slot, year_slot}
use Rattle.civil.specs.Table.{civil_table, civil_pool, months_entry, years_entry}
use Rattle.civil.specs.Rows.{IsRow, CivilRows}
use Rattle.civil.proofs.Tilings.{Starts, Tiled, tiling, function-tiled, tiled-granules}
use Rattle.civil.proofs.Grouped.{grouped}
use Rattle.civil.proofs.Answers.{meant_by}
use Rattle.civil.proofs.Entries.{s9, s10, starts-9, starts-10}
use Rattle.civil.proofs.Answered.{meanings, table-answered}
use Rattle.civil.proofs.Dates.{date-on, on-inside}

-- ---- the granules

pub months-tiled : Tiled months s9
unfolding months
months-tiled =
    function-tiled starts-9 (λ t. month_slot (date_of t).year (date_of t).month) (λ t. on-inside (date-on t))

-- a year is its months 1 to 12
pub years-tiled : Tiled years s10
unfolding years grouped
years-tiled = function-tiled starts-10 (λ t. year_slot (date_of t).year) λ t.
    let y = (date_of t).year in
    let m = (date_of t).month in
    let (h, k) = (date-on t).exists.month in
    let (l, u) = on-inside (date-on t) in
    let first = first-mono (tiling starts-9) (pos 12 *ℤ (year_slot y -ℤ pos 1) +ℤ pos 1) (month_slot y m) (h ∴ simp ints (omega arith)) in
    let last = first-mono (tiling starts-9) (month_slot y m +ℤ pos 1) (pos 12 *ℤ (year_slot y +ℤ pos 1 -ℤ pos 1) +ℤ pos 1) (k ∴ simp ints (omega arith)) in
    (≤ℤ-trans first l, ≤ℤ-trans u (less last))
  where
    less : {a b : ℤ} → a ≤ℤ b → (a -ℤ pos 1) ≤ℤ (b -ℤ pos 1)
    less {a} {b} = simp ints (omega arith)

-- "Instant 1 is to be 1 January 2001, month 1 is January 2001 and year 1 is 2001."
pub first-instant : (date_of (pos 1) ≡ date (pos 2001) 1 1) × (months (pos 1) ≡ some (pos 1)) × (years (pos 1) ≡ some (pos 1))
unfolding months years date_of steps
first-instant = (refl, refl, refl)

-- ---- the table

abbrev pub civil_meanings : List Meant
civil_meanings = meanings months years

-- in every pool from 332,046 to 4,194,304 cells and with 11 headings or more the table is answered
pub civil-answered : (headings pool : ℕ) → 11 ≤ headings → civil_pool ≤ pool → pool ≤ pool_limit
    → TableMeans civil_table headings pool (means civil_meanings)
civil-answered = table-answered months-tiled years-tiled

-- rows that stand for its entries are those of the months and the years
pub civil-represented : (row : ℕ → Row) → ((k : ℕ) → k < 11 → Represents (get_or civil_meanings k nothing) (row k))
    → CivilRows row
civil-represented row h =
    record { months = of starts-9 months-tiled (h months_entry (omega arith)); years = of starts-10 years-tiled (h years_entry (omega arith)) }
  where
    of : {s : ℤ → ℤ} {P N m : ℕ} → Starts s P N m → {c : Calendar} → Tiled c s → {r : Row}
        → Represents (meant_by c P N) r
        → IsRow c (record { period = P; distance = N }) r
    of starts tiled {r} h = record {
      least = h.least;
      turn = sym h.turn;
      granules = tiled-granules starts tiled r h.least ∙ ap (λ (p : Turn). p.distance) (sym h.turn);
    }

-- and its rows are the least rows of the months and the years
pub civil-rows : (headings pool : ℕ) → 11 ≤ headings → civil_pool ≤ pool → pool ≤ pool_limit
    → (l : List Row) × (outcome civil_table headings pool ≡ rows l) × CivilRows (λ k. get_or l k bottom_row)
civil-rows headings pool h p q =
    by (outcome civil_table headings pool) refl
    (demand-2-only civil_table headings pool (means civil_meanings) (civil-answered headings pool h p q))
  where
    by : (o : Outcome) → outcome civil_table headings pool ≡ o → Agrees (means civil_meanings) o
        → (l : List Row) × (outcome civil_table headings pool ≡ rows l) × CivilRows (λ k. get_or l k bottom_row)
    by (refused_at n k) e a = absurd a
    by (rows l) e a =
        let n = represents-length civil_meanings l a in
        (l, e, civil-represented (λ k. get_or l k bottom_row) (λ k b. represents-at civil_meanings l a k (omega arith)))

-- The rows of the months and the years, as `convert` leaves them in lists of any former content.
-- Assumes nothing.
use mathlib.Core.Path.{◌≡◌}
use mathlib.Core.List.{List}
use Prim.Native.Nat.{ℕ, ◌*◌, ◌/◌, ◌≤◌}
use native.Mathlib.Nat.{le-div_iff_mul-le}
use native.Mathlib.Omega.{arith}
use lib.IntN.{ℤ}
use Rattle.calendar.specs.Limits.{pool_limit, heading_length}
use Rattle.algebra.specs.TableMeaning.TableReply.{means}
use Rattle.civil.specs.Table.{civil_table, civil_pool}
use Rattle.civil.specs.Rows.{CivilRows}
use Rattle.civil.proofs.Civil.{civil_meanings, civil-answered, civil-represented}
use Rattle.conversion.specs.Conversion.{Conversion, Converted}
use Rattle.conversion.specs.Shows.{row_at}
use Rattle.conversion.specs.Left.{Left}
use Rattle.conversion.proofs.Demands.{demand-2-only}

-- lent 11 headings and 332,046 cells or more, up to the limit, `convert` answers, and the rows by their headings are
-- those of the civil calendar
pub civil-left : (h p : ℕ) (c : Conversion) (headings : List ℕ) (pool : List ℤ) → Left civil_table h p c headings pool
    → heading_length * 11 ≤ h → civil_pool ≤ p → p ≤ pool_limit → (c ≡ Converted) × CivilRows (row_at headings pool)
civil-left h p c headings pool left n fits small =
    let eleven : 11 ≤ h / heading_length =
    (le-div_iff_mul-le {k = heading_length} {x = 11} {y = h} (omega arith)).1 (omega arith) in
    let shown = demand-2-only civil_table h p c headings pool left (means civil_meanings)
    (civil-answered (h / heading_length) p eleven fits small) in
    (shown.answer, civil-represented (row_at headings pool) shown.rows)

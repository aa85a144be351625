-- `sheet_lines::write_rows` meets its contract. The loop's invariant: the lines of the first i headings have been written.
-- Assumes nothing.
use mathlib.Core.Path.{◌≡◌, sym, ap, ◌∙◌}
use mathlib.Core.List.{List, ◌++◌, append-nil, append_assoc}
use Prim.Native.Nat.{ℕ, ◌+◌, ◌-◌}
use native.Mathlib.Omega.{arith}
use native.Mathlib.Nat.{add-sub_cancel_left}
use native.Mathlib.Numerals.{add-one}
use lib.IntN.{ℤ}
use lib.ListN.{take, drop}
use Rattle.calendar.specs.Meaning.{Row}
use Rattle.conversion.specs.Shows.{start_at, period_at, distance_at, end_at}
use Rattle.sheet_lines.specs.RowLines.{row_line, row_lines}
use Rattle.sheet_lines.proofs.Laying.{relay}
use Rattle.sheet_lines.proofs.write_rows.Goals as goal

-- the row of the heading i, with n cells
abbrev row_of : List ℕ → List ℤ → ℕ → ℕ → Row
row_of headings pool i n = record { period = period_at headings i; distance = distance_at headings i; cells = take n (drop (start_at headings i) pool) }

-- the line of one row more
one_more : (headings : List ℕ) (pool : List ℤ) (i : ℕ) (t : List ℕ)
    → (t ++ row_lines headings pool i) ++ row_line (row_of headings pool i (end_at headings i - start_at headings i)) ≡ t ++ row_lines headings pool (i + 1)
one_more headings pool i t =
    append_assoc t (row_lines headings pool i) _
    ∙ ap (λ (n : ℕ). t ++ (row_lines headings pool i ++ row_line (row_of headings pool i n))) (add-sub_cancel_left (start_at headings i) (period_at headings i))
    ∙ ap (λ (n : ℕ). t ++ row_lines headings pool n) (sym (add-one i))

pub loop-i-init : goal.loop-i-init
loop-i-init c = λ t o h. relay (sym (append-nil t)) h

pub loop-i-preserved : goal.loop-i-preserved
loop-i-preserved c =
    let a = c.args in
    λ u o h. relay (one_more a.headings.now a.pool.now c.loop-i.i u)
    (c.write_row-place.ensures _ o (c.loop-i.invariant u o h))

pub returns : goal.returns
returns c =
    let a = c.args in
    let e : c.loop-i.i ≡ a.n = omega arith in
    λ t o h. relay (ap (λ (i : ℕ). t ++ row_lines a.headings.now a.pool.now i) e) (c.loop-i.invariant t o h)

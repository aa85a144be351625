-- How many bytes the lines of sound rows have at most.
-- Assumes nothing.
use mathlib.Core.Path.{◌≡◌, refl, ap, subst}
use mathlib.Core.Logic.{⊎_elim}
use mathlib.Core.Bool.{Bool, true, cond}
use mathlib.Core.Option.{none, some}
use mathlib.Core.List.{List, [], ◌∷◌, map, Memᴰ}
use Prim.Native.Nat.{ℕ, zero, suc, ◌+◌, ◌*◌, ◌/◌, ◌≤◌, ◌<◌}
use native.Mathlib.Omega.{arith}
use lib.Dec.{ltb}
use lib.IntN.{ℤ, pos, negsuc}
use lib.ListN.{length, length-append}
use borrow.Author.Tests.{ltb-true, ltb-false}
use Rattle.integers.proofs.Linear.{ints}
use Rattle.calendar.specs.Limits.{in_range}
use Rattle.calendar.specs.Meaning.{Row, is_empty}
use Rattle.calendar.specs.Lists.{all}
use Rattle.calendar.specs.Sound.{sound, labels_of}
use Rattle.calendar.specs.Stored.{joined}
use Rattle.granules.proofs.Tests.{true-or-false, and-iff}
use Rattle.granules.proofs.Rows.{labels-cons, labels-skip}
use Rattle.granules.proofs.Sound.{sound-valid, sound-limits}
use Rattle.algebra.proofs.Working.{in_range-iff}
use Rattle.table_text.specs.Numerals.{decimal, numeral}
use Rattle.table_text.specs.Words.{lines}
use Rattle.table_text.specs.SheetWords.{row_words}
use Rattle.table_text.proofs.Decimal.{decimal-small, decimal_step}
use Rattle.table_text.proofs.Numbers.{numeral-pos, numeral-negsuc}
use Rattle.table_text.proofs.Printed.{cell-empty, cell-label}
use Rattle.sheet_lines.specs.RowLines.{spaced_cells, row_line, refusal_line}
use Rattle.sheet_lines.proofs.Lines.{row-line, refusal-line}

-- ---- numbers

-- 10 to the k
abbrev tens : ℕ → ℕ
tens zero = 1
tens (suc k) = 10 * tens k

-- a number below 10^k has at most k digits, for k from 1 on
decimal-length : (k n : ℕ) → n < tens (suc k) → length (decimal n) ≤ suc k
decimal-length zero n h = rw (decimal-small n (omega arith)) (omega arith)
decimal-length (suc k) n h = ⊎_elim
    (λ e. rw (decimal-small n (ltb-true n 10 e)) (omega arith))
    (λ e.
    let ten : 10 ≤ n = ltb-false n 10 e in
    let front = decimal-length k (n / 10) (omega arith) in
    rw (decimal_step n ten) (simp length-append (omega arith)))
    (true-or-false (ltb n 10))

numeral-length : (z : ℤ) → in_range z ≡ true → length (numeral z) ≤ 11
numeral-length (pos n) h =
    let b : n ≤ 1000000000 = omega (arith, simp ints at ((in_range-iff (pos n)).0 h).1) in
    rw (numeral-pos n) (omega (arith, decimal-length 9 n (omega arith)))
numeral-length (negsuc n) h =
    let b : suc n ≤ 1000000000 = omega (arith, simp ints at ((in_range-iff (negsuc n)).0 h).0) in
    rw (numeral-negsuc n) (omega (arith, decimal-length 9 (suc n) (omega arith)))

-- ---- cells

-- a cell has at most 11 bytes, and a space before it
cells-length : (l : List ℤ) → all in_range (labels_of l) ≡ true → length (spaced_cells l) ≤ 12 * length l
cells-length [] h = omega arith
cells-length (z ∷ l) h = ⊎_elim
    (λ e.
    let skips = labels-skip z l (ap (λ (b : Bool). cond b none (some z)) e) in
    let rest = cells-length l (subst (λ (m : List ℤ). all in_range m ≡ true) skips h) in
    rw (cell-empty z e) (omega arith))
    (λ e.
    let has = labels-cons z z l (ap (λ (b : Bool). cond b none (some z)) e) in
    let both = (and-iff (in_range z) (all in_range (labels_of l))).0 (subst (λ (m : List ℤ). all in_range m ≡ true) has h) in
    let word = numeral-length z both.0 in
    let rest = cells-length l both.1 in
    rw (cell-label z e) (omega (arith, length-append (numeral z) (spaced_cells l))))
    (true-or-false (is_empty z))

-- ---- rows

-- a line has at most 10 bytes beside its cells
row-length : (r : Row) → sound r ≡ true → r.period < 10000 → length (row_line r) ≤ 10 + 12 * length r.cells
row-length r h b =
    let l = sound-limits r h in
    let p = decimal-length 3 r.period b in
    let d = decimal-length 3 r.distance (omega arith) in
    let c = cells-length r.cells l.2 in
    subst (λ (w : List ℕ). length w ≤ 10 + 12 * length r.cells) (row-line r.period r.distance r.cells []) (simp length-append (omega arith))

pub rows-length : (l : List Row) → ((r : Row) → Memᴰ r l → sound r ≡ true) → length (joined l) < 10000
    → length (lines (map row_words l)) ≤ 10 * length l + 12 * length (joined l)
rows-length [] h b = omega arith
rows-length (r ∷ l) h b =
    let is = h r (Memᴰ.head refl) in
    let cells = length-append r.cells (joined l) in
    let first = row-length r is (omega (arith, (sound-valid r is).whole)) in
    let rest = rows-length l (λ s m. h s (Memᴰ.tail m)) (omega arith) in
    omega (arith, length-append (row_line r) (lines (map row_words l)))

-- ---- refusals

pub refusal-length : (n k : ℕ) → n < 100 → k < 10000 → length (refusal_line n k) ≤ 19
refusal-length n k h b =
    let number = decimal-length 1 n h in
    let entry = decimal-length 3 k b in
    subst (λ (w : List ℕ). length w ≤ 19) (refusal-line n k []) (simp length-append (omega arith))

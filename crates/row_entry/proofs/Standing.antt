-- Where rows stand one behind the other with their headings, the operand of a heading is its row, with its granules.
-- Assumes nothing.
use mathlib.Core.Path.{◌≡◌, refl, sym, ◌∙◌, ap, ap₂}
use mathlib.Core.Bool.{true}
use mathlib.Core.List.{List, [], ◌∷◌, ◌++◌, append_assoc, Memᴰ}
use Prim.Native.Nat.{ℕ, zero, suc, ◌+◌, ◌-◌, ◌*◌, ◌≤◌, ◌<◌}
use native.Mathlib.Omega.{arith}
use lib.IntN.{ℤ, pos}
use lib.ListN.{length, get_or, take, drop, replicate, length-append, take-append-drop}
use lib.Seq.{take_at, drop-append_seam}
use Rattle.integers.proofs.Linear.{ints}
use Rattle.calendar.specs.Limits.{heading_length}
use Rattle.calendar.specs.Meaning.{Row, bottom_row}
use Rattle.calendar.specs.Sound.{sound}
use Rattle.calendar.specs.Granules.{granules}
use Rattle.calendar.specs.Stored.{joined, headings_from}
use Rattle.granules.proofs.Sound.{sound-valid}
use Rattle.kinds.specs.declared.Operand.{Operand}
use Rattle.kinds.specs.Stands.{end, row_in, Counted}
use Rattle.row_entry.specs.Stores.{Stores}
use Rattle.row_entry.specs.Entering.{operand_of}
use Rattle.row_entry.proofs.Cells.{start-suc, number-suc}

-- ---- headings

-- behind the heading of a row
behind-row : (s : ℕ) (r : Row) (l : List Row) (n j : ℕ)
    → operand_of (headings_from s (r ∷ l) ++ replicate n 0) (suc j) ≡ operand_of (headings_from (s + r.period) l ++ replicate n 0) j
behind-row s r l n j =
    let number = number-suc s r.period r.distance (granules r) (headings_from (s + r.period) l ++ replicate n 0) j in
    let start = start-suc s r.period r.distance (granules r) (headings_from (s + r.period) l ++ replicate n 0) j in
    λ i. record { start = start i; period = pos (number 1 i); distance = pos (number 2 i); granules = pos (number 3 i) }

-- no heading stands there
alike_at : (n i d : ℕ) → get_or (replicate n d) i d ≡ d
alike_at zero i d = refl
alike_at (suc n) zero d = refl
alike_at (suc n) (suc i) d = alike_at n i d

none-ends : (n j : ℕ) → end (operand_of (replicate n 0) j) ≡ 0
none-ends n j = omega (arith, alike_at n (heading_length * j) 0, alike_at n (heading_length * j + 1) 0)

-- ---- all cells of a row are in it

abbrev AllSound : List Row → Type 0
AllSound l = (r : Row) → Memᴰ r l → sound r ≡ true

whole : (r : Row) (l : List Row) → AllSound (r ∷ l) → length r.cells ≡ r.period
whole r l h = (sound-valid r (h r (Memᴰ.head refl))).whole

others : (r : Row) (l : List Row) → AllSound (r ∷ l) → AllSound l
others r l h s m = h s (Memᴰ.tail m)

-- the operand j ends before the rows do, which start at s
ends-from : (l : List Row) (s n j : ℕ) → AllSound l → end (operand_of (headings_from s l ++ replicate n 0) j) ≤ s + length (joined l)
ends-from [] s n j h = omega (arith, none-ends n j)
ends-from (r ∷ l) s n zero h = simp length-append (omega (arith, whole r l h))
ends-from (r ∷ l) s n (suc j) h =
    let ih = ends-from l (s + r.period) n j (others r l h) in
    let same = ap end (behind-row s r l n j) in
    simp length-append (omega (arith, whole r l h))

-- the cells of the first row
first-cells : (front : List ℤ) (r : Row) (next rest : List ℤ) → length r.cells ≡ r.period
    → take r.period (drop (length front) (front ++ ((r.cells ++ next) ++ rest))) ≡ r.cells
first-cells front r next rest h =
    ap (take r.period) (drop-append_seam front ((r.cells ++ next) ++ rest) ∙ append_assoc r.cells next rest) ∙ take_at r.cells (next ++ rest) r.period h

-- the operand j is the row j
row_from : (front : List ℤ) (l : List Row) (rest : List ℤ) (n j : ℕ) → AllSound l → j < length l
    → row_in (front ++ (joined l ++ rest)) (operand_of (headings_from (length front) l ++ replicate n 0) j) ≡ get_or l j bottom_row
row_from front [] rest n j h k = absurd (omega arith)
row_from front (r ∷ l) rest n zero h k = λ i. record { period = r.period; distance = r.distance; cells = first-cells front r (joined l) rest (whole r l h) i }
row_from front (r ∷ l) rest n (suc j) h k =
    let cells : front ++ ((r.cells ++ joined l) ++ rest) ≡ (front ++ r.cells) ++ (joined l ++ rest) = simp append_assoc in
    let next : length front + r.period ≡ length (front ++ r.cells) = simp length-append (omega (arith, whole r l h)) in
    ap₂ row_in cells (behind-row (length front) r l n j ∙ ap (λ (s : ℕ). operand_of (headings_from s l ++ replicate n 0) j) next)
    ∙ row_from (front ++ r.cells) l rest n j (others r l h) (omega arith)

-- the granules of the operand j are those of the row j
granules-from : (l : List Row) (s n j : ℕ) → j < length l → (operand_of (headings_from s l ++ replicate n 0) j).granules ≡ pos (granules (get_or l j bottom_row))
granules-from [] s n j k = absurd (omega arith)
granules-from (r ∷ l) s n zero k = refl
granules-from (r ∷ l) s n (suc j) k = ap (λ (a : Operand). a.granules) (behind-row s r l n j) ∙ granules-from l (s + r.period) n j (omega arith)

-- ---- in a pool

module _ {l : List Row} {headings : List ℕ} {pool : List ℤ} {used : ℕ} (s : Stores l headings pool used) where
  pub operand-ends : (j : ℕ) → end (operand_of headings j) ≤ used
  operand-ends j =
      let n = length headings - length (headings_from 0 l) in
      omega (arith, s.ends, ap (λ (h : List ℕ). end (operand_of h j)) s.numbers, ends-from l 0 n j s.all_sound)

  pub operand_row : (j : ℕ) → j < length l → row_in pool (operand_of headings j) ≡ get_or l j bottom_row
  operand_row j h =
      let pool-is : pool ≡ joined l ++ drop used pool = sym (take-append-drop used pool) ∙ ap (λ (c : List ℤ). c ++ drop used pool) s.cells in
      ap₂ (λ (p : List ℤ) (n : List ℕ). row_in p (operand_of n j)) pool-is s.numbers
      ∙ row_from [] l (drop used pool) (length headings - length (headings_from 0 l)) j s.all_sound h

  pub operand-counted : (j : ℕ) → j < length l → Counted pool (operand_of headings j)
  operand-counted j h = record {
    distance = simp ints (omega arith);
    granules = ap (λ (n : List ℕ). (operand_of n j).granules) s.numbers
        ∙ granules-from l 0 (length headings - length (headings_from 0 l)) j h
        ∙ ap (λ (r : Row). pos (granules r)) (sym (operand_row j h));
  }

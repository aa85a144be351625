-- The rows of entries that are right, as a conversion would have left them: their headings, and nothing behind.
-- Assumes nothing.
use mathlib.Core.Path.{◌≡◌, refl, sym, ◌∙◌, ap}
use mathlib.Core.Logic.{◌⊎◌, inl, inr}
use mathlib.Core.List.{List}
use Prim.Native.Nat.{ℕ, ◌+◌, ◌-◌, ◌*◌, ◌≤◌, ◌<◌}
use native.Mathlib.Omega.{arith}
use lib.IntN.{ℤ, pos}
use lib.ListN.{length, get_or, take, replicate, get_or-append, get_or-eq_default}
use lib.Seq.{get_or-take, length-take-le}
use Rattle.calendar.specs.Limits.{heading_length}
use Rattle.calendar.specs.Meaning.{Row}
use Rattle.calendar.specs.Lists.{filled}
use Rattle.calendar.specs.Stored.{headings_from, joined}
use Rattle.granules.proofs.Tests.{decided, ltb_iff}
use Rattle.conversion.proofs.Headings.{filled-length, filled-behind, headings-length}
use Rattle.row_entry.specs.Stores.{Stores}
use Rattle.row_entry.specs.Entering.{operand_of}
use Rattle.verdicts.specs.Begins.{Begins}
use Rattle.verdicts.proofs.Firsts.{AllSound}

-- ---- the operand of a heading among the first

four_same : (a b : List ℕ) (j : ℕ) → ((i : ℕ) → i < heading_length → get_or a (heading_length * j + i) 0 ≡ get_or b (heading_length * j + i) 0) → operand_of a j ≡ operand_of b j
four_same a b j h =
    let e : heading_length * j ≡ heading_length * j + 0 = omega arith in
    let s : get_or a (heading_length * j) 0 ≡ get_or b (heading_length * j) 0 = ap (λ (i : ℕ). get_or a i 0) e ∙ h 0 (omega arith) ∙ ap (λ (i : ℕ). get_or b i 0) (sym e) in
    let p = h 1 (omega arith) in
    let d = h 2 (omega arith) in
    let g = h 3 (omega arith) in
    λ i. record { start = s i; period = pos (p i); distance = pos (d i); granules = pos (g i) }

-- it is one of the first k
pub operand-among : (headings : List ℕ) (k j : ℕ) → j < k → operand_of headings j ≡ operand_of (take (heading_length * k) headings) j
operand-among headings k j b =
    four_same headings (take (heading_length * k) headings) j
    (λ i l. sym (get_or-take (heading_length * k) headings (heading_length * j + i) 0 (omega arith)))

pub operand-none : (headings : List ℕ) (k j : ℕ) → heading_length * k ≤ length headings → k ≤ j
    → record { start = 0; period = pos 0; distance = pos 0; granules = pos 0 } ≡ operand_of (take (heading_length * k) headings) j
operand-none headings k j b h =
    let l = take (heading_length * k) headings in
    let short = length-take-le (heading_length * k) headings b in
    let at : (i : ℕ) → heading_length * j ≤ i → 0 ≡ get_or l i 0 = λ i m. sym (get_or-eq_default l 0 (omega arith)) in
    let s = at (heading_length * j) (omega arith) in
    let p = at (heading_length * j + 1) (omega arith) in
    let d = at (heading_length * j + 2) (omega arith) in
    let g = at (heading_length * j + 3) (omega arith) in
    λ i. record { start = s i; period = pos (p i); distance = pos (d i); granules = pos (g i) }

-- ---- as a conversion would have left them

abbrev pub left_by : List Row → List ℕ → List ℕ
left_by l headings = filled (length headings) 0 (headings_from 0 l)

-- zeros behind a list are not seen
get_or-filled : (n : ℕ) (l : List ℕ) (i : ℕ) → get_or l i 0 ≡ get_or (filled n 0 l) i 0
get_or-filled n l i = by (decided (ltb_iff i (length l)))
  where
    by : (i < length l) ⊎ ¬ (i < length l) → get_or l i 0 ≡ get_or (filled n 0 l) i 0
    by (inl b) = sym (get_or-append l (replicate (n - length l) 0) 0 i b)
    by (inr b) = get_or-eq_default l 0 (omega arith) ∙ sym (filled-behind n 0 l i (omega arith))

module _ (l : List Row) (headings : List ℕ) (pool : List ℤ) (begins : Begins l headings pool) (all_sound : AllSound l)
    (b : heading_length * length l ≤ length headings) (fits : length (joined l) ≤ length pool) where
  pub left-length : length (left_by l headings) ≡ length headings
  left-length = filled-length (length headings) 0 (headings_from 0 l) (omega (arith, headings-length 0 l))

  pub left-stores : Stores l (left_by l headings) pool (length (joined l))
  left-stores = record {
    numbers = ap (λ (n : ℕ). filled n 0 (headings_from 0 l)) (sym left-length);
    cells = begins.cells;
    ends = refl;
    fits = fits;
    all_sound = all_sound;
  }

  -- the operand of a heading among the first
  pub left-operand : (j : ℕ) → operand_of (take (heading_length * length l) headings) j ≡ operand_of (left_by l headings) j
  left-operand j =
      ap (λ (h : List ℕ). operand_of h j) begins.numbers
      ∙ four_same (headings_from 0 l) (left_by l headings) j (λ i m. get_or-filled (length headings) (headings_from 0 l) (heading_length * j + i))

-- The least row of a working row in the pool.
-- Assumes nothing.
use mathlib.Core.Path.{◌≡◌, refl, sym, ◌∙◌, ap, ap₂}
use mathlib.Core.Bool.{true}
use mathlib.Core.List.{List, ◌∷◌, ◌++◌}
use Prim.Native.Nat.{ℕ, ◌+◌, ◌*◌, ◌≤◌}
use native.Mathlib.Nat.{mul-le-mul_right, div-le_of_le-mul}
use native.Mathlib.Omega.{arith}
use lib.IntN.{ℤ, pos, nat_abs}
use lib.Signed.{◌≤ℤ◌}
use lib.ListN.{take, drop}
use mir.Syntax.{w64}
use mir.Val.{SFits, of_z, to_z}
use mir.ValLaws.{to_z-of_z}
use Rattle.integers.specs.Parts.{up}
use Rattle.integers.proofs.Linear.{ints}
use Rattle.calendar.specs.Meaning.{Row}
use Rattle.calendar.specs.Limits.{pool_limit, heading_length}
use Rattle.calendar.specs.Granules.{granules}
use Rattle.calendar.specs.Least.{least}
use Rattle.calendar.specs.Questions.{given}
use Rattle.calendar.specs.Sound.{sound}
use Rattle.granules.specs.Valid.{Valid}
use Rattle.granules.proofs.Count.{granules-at-most}
use Rattle.granules.proofs.Least.{least-shorter}
use Rattle.granules.proofs.Sound.{sound-valid, sound-limits}
use Rattle.kinds.specs.declared.Operand.{Operand}
use Rattle.kinds.specs.Stands.{row_in}
use Rattle.row_entry.specs.Entering.{Worked, Added}
use Rattle.entries.proofs.Naturals.{nat_abs-up}
use Rattle.row_entry.proofs.Cells.{take_part}
use Rattle.row_entry.proofs.Parts.{OperandFits, end_read, handed, handed-is}

-- ---- the least row of a sound one

pub least-cells : (r : Row) → (least r).cells ≡ take (least r).period r.cells
unfolding least
least-cells r = refl

-- N ≤ P goes over to the least row
pub least-dense : (r : Row) → r.distance ≤ r.period → (least r).distance ≤ (least r).period
unfolding least
least-dense r h = div-le_of_le-mul r.period (mul-le-mul_right _ h)

-- ---- of the working row

-- its least period z, as the machine holds it
pub record Found (period distance : ℤ) (used : ℕ) (pool : List ℤ) (z : ℤ) : Type 0 where
  pub is : z ≡ pos (least (given period distance (take (up period) (drop used pool)))).period
  pub low : pos 0 ≤ℤ z
  pub fits : SFits w64 z
  pub read : nat_abs (to_z w64 (of_z w64 z)) ≡ up z
  pub short : up z ≤ up period

module _ (period distance : ℤ) (used : ℕ) (pool : List ℤ) (w : Worked period distance used pool) (p : SFits w64 period) (d : SFits w64 distance) where
  -- it stands in the pool as an operand does
  abbrev stands : Operand
  stands = record { start = used; period = period; distance = distance; granules = pos 0 }

  abbrev row : Row
  row = row_in pool stands

  fits : OperandFits stands
  fits = record { period = p; distance = d }

  -- its end, as the machine sums it up
  abbrev ending : ℕ
  ending = used + nat_abs (to_z w64 (of_z w64 period))

  pub ending-is : ending ≡ used + up period
  ending-is = end_read stands fits w.low

  pub handed-row : handed pool stands ending ≡ row
  handed-row = handed-is pool stands ending fits ending-is

  pub handed-sound : sound (handed pool stands ending) ≡ true
  handed-sound = rw handed-row w.is-sound

  row-valid : Valid row
  row-valid = sound-valid row w.is-sound

  pub short : (least row).period ≤ up period
  short = least-shorter row row-valid

  pub dense : (least row).distance ≤ (least row).period
  dense = least-dense row (sound-limits row w.is-sound).0

  -- R of the least row is at most its period
  pub few : granules (least row) ≤ (least row).period
  few = omega (arith, granules-at-most (least row), dense)

  -- its least period, as the machine holds it
  pub found : (z : ℤ) → z ≡ pos (least row).period → Found period distance used pool z
  found z is = record {
    is = is;
    low = low;
    fits = fits-z;
    read = ap nat_abs (to_z-of_z w64 z fits-z) ∙ nat_abs-up low;
    short = omega (arith, ap up is, short);
  }
    where
      low : pos 0 ≤ℤ z
      low = rw is (simp ints (omega arith))

      fits-z : SFits w64 z
      fits-z = rw is (simp ints (omega (arith, short)))

  pub found-handed : (z : ℤ) → z ≡ pos (least (handed pool stands ending)).period → Found period distance used pool z
  found-handed z e = found z (e ∙ ap (λ (r : Row). pos (least r).period) handed-row)

  -- ---- the least row with its heading

  -- a number up to its least period, as the machine holds it
  pub found_number : (n : ℕ) → n ≤ (least row).period → (z : ℤ) → z ≡ pos n → SFits w64 z × (pos 0 ≤ℤ z) × (z ≤ℤ pos pool_limit)
  found_number n h z is = rw is (simp ints (omega (arith, short)), simp ints (omega arith), simp ints (omega (arith, short)))

  pub added : (k : ℕ) (numbers headings : List ℕ) (z : ℤ) (e a b c d : ℕ) → Found period distance used pool z
      → a ≡ used → b ≡ up z → c ≡ (least row).distance → d ≡ granules (least row) → e ≡ used + nat_abs (to_z w64 (of_z w64 z))
      → headings ≡ take (heading_length * k) numbers ++ (a ∷ b ∷ c ∷ d ∷ drop (heading_length * k + heading_length) numbers)
      → Added k used numbers pool (least row) e headings pool
  added k numbers headings z e a b c d f ae be ce de ee he =
      let q : up z ≡ (least row).period = ap up f.is in
      let rest = drop (heading_length * k + heading_length) numbers in
      record {
        heading = he
            ∙ ap₂ (λ (a b : ℕ). take (heading_length * k) numbers ++ (a ∷ b ∷ c ∷ d ∷ rest)) ae (be ∙ q)
            ∙ ap₂ (λ (c d : ℕ). take (heading_length * k) numbers ++ (used ∷ (least row).period ∷ c ∷ d ∷ rest)) ce de;
        cells = take_part pool used (up period) (least row).period short ∙ ap (λ (l : List ℤ). take used pool ++ l) (sym (least-cells row));
        ends = ee ∙ ap (λ (n : ℕ). used + n) (f.read ∙ q);
      }

-- A cell that is read, and its label.
-- Assumes nothing.
use mathlib.Core.Path.{◌≡◌, refl, ap}
use mathlib.Core.Logic.{◌↔◌, ◌⊎◌, inl, inr}
use mathlib.Core.Bool.{true, false}
use mathlib.Core.Option.{none, some}
use mathlib.Core.List.{List, [], ◌∷◌}
use Prim.Native.Nat.{ℕ, zero, suc, ◌<◌}
use native.Mathlib.Omega.{arith}
use lib.Dec.{T}
use lib.IntN.{ℤ, pos, negsuc, nat_abs, pos-ne-negsuc}
use lib.Signed.{◌≤ℤ◌, non_neg}
use lib.ListN.{length, get_or}
use mir.Facts.{sfits_lit}
use mir.Syntax.{w32}
use mir.Val.{SFits, of_z}
use Rattle.integers.specs.Parts.{up}
use Rattle.integers.proofs.Linear.{ints}
use Rattle.integers.proofs.Order.{pos-up}
use Rattle.integers.proofs.Machine.{test-eq}
use Rattle.calendar.specs.Meaning.{label_of, is_empty, empty}
use Rattle.granules.proofs.Tests.{true≢false, eqb-iff, false-iff}
use Rattle.granules.proofs.Equal.{cell-cases}
use Rattle.cursors.specs.Cursor.{Index}

-- what stands behind the end does not matter to a cell before it
pub get_d_any : (l : List ℤ) (i : ℕ) (d e : ℤ) → i < length l → get_or l i d ≡ get_or l i e
get_d_any [] i d e h = absurd (omega arith)
get_d_any (z ∷ l) zero d e h = refl
get_d_any (z ∷ l) (suc i) d e h = get_d_any l i d e (omega arith)

-- the label of an empty cell, and of any other
pub label-empty : (z : ℤ) → z ≡ empty → label_of z ≡ none
label-empty z e = ap label_of e

pub label-full : (z : ℤ) → (z ≡ empty → ⊥) → label_of z ≡ some z
label-full z f = by (cell-cases z)
  where
    by : ((label_of z ≡ none) × (z ≡ empty)) ⊎ (label_of z ≡ some z) → label_of z ≡ some z
    by (inl p) = absurd (f p.1)
    by (inr p) = p

-- the test of a cell that is empty
pub empty-iff : (z : ℤ) → (is_empty z ≡ true) ↔ (z ≡ empty)
empty-iff (pos n) = (λ e. absurd (true≢false e refl), λ e. absurd (pos-ne-negsuc n 2147483647 e))
empty-iff (negsuc n) = (λ e. ap negsuc ((eqb-iff n 2147483647).0 e), λ e. (eqb-iff n 2147483647).1 (cc))

-- the machine compares bits
pub bits-empty : (z : ℤ) → SFits w32 z → of_z w32 z ≡ 2147483648 → is_empty z ≡ true
bits-empty z f e = (empty-iff z).1 ((test-eq w32 z empty f (sfits_lit tt)).0 e)

pub bits_full : (z : ℤ) → (of_z w32 z ≡ 2147483648 → ⊥) → is_empty z ≡ false
bits_full z f = (false-iff (empty-iff z)).1 (λ e. f (ap (of_z w32) e))

-- a number that is not below 0, as the machine casts it to an unsigned one
pub cast-nat : {z : ℤ} → pos 0 ≤ℤ z → (T (non_neg z)) × (nat_abs z ≡ up z)
cast-nat {z = pos n} h = (tt, refl)
cast-nat {z = negsuc n} h = absurd h.le

pub index-nat : {i : ℤ} (cells : List ℤ) → Index i cells → (T (non_neg i)) × (nat_abs i ≡ up i) × (up i < length cells)
index-nat cells h = let n = cast-nat h.0 in (n.0, n.1, omega (arith, simp ints at h.1, simp ints at (pos-up h.0)))

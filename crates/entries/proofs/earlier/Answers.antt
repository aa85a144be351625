-- `entries::earlier` meets its contract: a number below 0 is no entry, and any other is a natural.
-- Assumes nothing.
use mathlib.Core.Path.{◌≡◌, refl, sym}
use mathlib.Core.Bool.{false}
use Prim.Native.Nat.{ℕ}
use native.Mathlib.Omega.{arith}
use lib.Dec.{ltb}
use lib.IntN.{ℤ, pos, negsuc, nat_abs}
use lib.Signed.{◌≤ℤ◌, ◌<ℤ◌}
use Rattle.integers.proofs.Linear.{ints, ◌∴◌}
use Rattle.integers.proofs.Machine.{plain}
use Rattle.calendar.specs.Table as Table
use Rattle.entries.proofs.Naturals.{cast-natural}
use Rattle.entries.proofs.earlier.Goals as goal

negative : (k : ℕ) (z : ℤ) → z <ℤ pos 0 → Table.earlier k z ≡ false
negative k (pos n) h = absurd (h ∴ simp ints (omega arith))
negative k (negsuc n) h = refl

natural : (k : ℕ) (z : ℤ) → pos 0 ≤ℤ z → Table.earlier k z ≡ ltb (nat_abs z) k
natural k (pos n) h = refl
natural k (negsuc n) h = absurd h.le

pub returns-then-operand-lt0 : goal.returns-then-operand-lt0
returns-then-operand-lt0 c = let f = c.ranges.operand in sym (negative _ _ (simp plain at c.if-operand-lt0.true))

pub overflow_cast-result : goal.overflow_cast-result
overflow_cast-result c = let f = c.ranges.operand in simp plain (cast-natural f (simp plain at c.if-operand-lt0.false))

pub returns : goal.returns
returns c = let f = c.ranges.operand in simp plain (sym (natural _ _ (simp plain at c.if-operand-lt0.false)))

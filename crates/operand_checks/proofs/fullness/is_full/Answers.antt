-- `operand_checks::fullness::is_full` meets its contract: a row is full if its granules are as many as its labels rise.
-- Assumes nothing.
use mathlib.Core.Path.{sym, ap₂}
use lib.Dec.{eqb}
use lib.IntN.{ℤ}
use mir.Syntax.{w64}
use mir.Val.{of_z}
use Rattle.integers.proofs.Order.{pos-up}
use Rattle.calendar.specs.Granules.{full}
use Rattle.operand_checks.proofs.fullness.is_full.Goals as goal

pub returns : goal.returns
unfolding full
returns c pool h = ap₂ (λ (x y : ℤ). eqb (of_z w64 x) (of_z w64 y)) h.granules (sym (pos-up h.distance))

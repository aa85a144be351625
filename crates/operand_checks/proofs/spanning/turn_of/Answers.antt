-- `operand_checks::spanning::turn_of` meets its contract: the numbers of a row are positive.
-- Assumes nothing.
use mathlib.Core.Path.{ap₂}
use Prim.Native.Nat.{ℕ}
use Rattle.sizes.specs.declared.Turn.{Turn}
use Rattle.operand_checks.proofs.Naturals.{period-natural, distance-natural}
use Rattle.operand_checks.proofs.spanning.turn_of.Goals as goal

pub overflow_cast-result : goal.overflow_cast-result
overflow_cast-result c = (period-natural c.requires c.ranges.period).cast

pub overflow_cast-result-2 : goal.overflow_cast-result-2
overflow_cast-result-2 c = (distance-natural c.requires c.ranges.distance).cast

pub returns : goal.returns
returns c = ap₂ made (period-natural c.requires c.ranges.period).is (distance-natural c.requires c.ranges.distance).is
  where
    made : ℕ → ℕ → Turn
    made p n = record { period = p; distance = n }

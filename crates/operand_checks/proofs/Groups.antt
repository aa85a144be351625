-- Checks 8 of group: its working period is no shorter than the span, so where the one passes the other does.
-- Assumes nothing.
use mathlib.Core.Path.{◌≡◌, refl, ◌∙◌}
use mathlib.Core.Bool.{Bool, true, false}
use Prim.Native.Nat.{ℕ, ◌/◌, ◌≤◌}
use native.Mathlib.Nat.{le_trans, mul-le-mul_left, le-div_iff_mul-le, le_of_dvd}
use native.Mathlib.Omega.{arith}
use borrow.Author.Tests.{le-leb}
use lib.Dec.{leb}
use Rattle.integers.specs.Gcd.{gcd}
use Rattle.integers.proofs.Divisors.{gcd-dvd, gcd-pos}
use Rattle.calendar.specs.Operation.Unary.{group}
use Rattle.calendar.specs.Size.{Turn, period_unary}
use Rattle.calendar.specs.Reply.{Reply, require}
use Rattle.calendar.specs.Reply.Reply.{refused, answer}
use Rattle.sizes.proofs.Whole.{group-period-is}
use Rattle.operand_checks.specs.declared.Extent.{Extent}
use Rattle.operand_checks.specs.Shared.{fitted, group_extent, grouped}
use Rattle.granules.proofs.Replies.{passed, failed}

group-no-shorter : (a : Turn) (x : ℕ) → 1 ≤ x → a.period ≤ period_unary (group x) a
group-no-shorter a x h =
    let k : 1 ≤ x / gcd x a.distance = (le-div_iff_mul-le (gcd-pos x a.distance h)).1 (omega (arith, le_of_dvd h (gcd-dvd x a.distance).0)) in
    omega (arith, group-period-is a x, mul-le-mul_left a.period k)

-- one of two checks failed
behind : (s : Bool) {t : Bool} (r : Reply Extent) → t ≡ false → require 8 s (require 8 t r) ≡ refused 8
behind true r e = failed 8 r e
behind false r e = refl

module _ (x : ℕ) (a : Turn) (room : ℕ) where
  pub grouped-fails : leb (period_unary (group x) a) room ≡ false → grouped x a room ≡ refused 8
  grouped-fails e = behind (leb a.period room) (answer (group_extent x a)) e

  pub grouped-passes : 1 ≤ x → period_unary (group x) a ≤ room → grouped x a room ≡ answer (group_extent x a)
  grouped-passes h k =
      passed 8 (fitted (group_extent x a) room) (le-leb _ _ (le_trans (group-no-shorter a x h) k))
      ∙ passed 8 (answer (group_extent x a)) (le-leb _ _ k)

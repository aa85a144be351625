-- `journal_api::refused_at` meets its contract: a line of 32 bits, with 1900 added and the sign changed, fits 64.
-- Assumes nothing.
use mathlib.Core.Path.{◌≡◌, ap, ◌∙◌}
use Prim.Native.Nat.{ℕ, ◌+◌, ◌<◌, ◌^◌}
use native.Mathlib.Omega.{arith}
use lib.IntN.{ℤ, pos, neg_ℤ, ◌+ℤ◌, ◌-ℤ◌}
use mir.Syntax.{w64}
use mir.Val.{SFits, of_z, to_z}
use mir.Facts.{to_z-of_z}
use Rattle.integers.proofs.Linear.{ints}
use Rattle.journal_api.proofs.Numbers.{number-back}
use Rattle.journal_api.proofs.refused_at.Goals as goal
use Rattle.journal_api.proofs.refused_at.Goals.{Start}

module _ (n : ℕ) (h : n < 2 ^ 32) where
  sum_fits : SFits w64 (pos 1900 +ℤ to_z w64 n)
  sum_fits = rw (number-back n (omega arith)) (simp ints (omega arith))

  sum_is : to_z w64 (of_z w64 (pos 1900 +ℤ to_z w64 n)) ≡ pos (1900 + n)
  sum_is = to_z-of_z sum_fits ∙ rw (number-back n (omega arith)) (simp ints (omega arith))

  less-fits : SFits w64 (pos 0 -ℤ pos (1900 + n))
  less-fits = simp ints (omega arith)

  less-is : to_z w64 (of_z w64 (pos 0 -ℤ pos (1900 + n))) ≡ neg_ℤ (pos (1900 + n))
  less-is = to_z-of_z less-fits ∙ simp ints (omega arith)

small : (c : Start) → c.args.line < 2 ^ 32
small c = omega (arith, c.ranges.line)

pub overflow_add-result : goal.overflow_add-result
overflow_add-result c = sum_fits c.args.line (small c)

pub overflow_sub-result : goal.overflow_sub-result
overflow_sub-result c = rw (sum_is c.args.line (small c)) (less-fits c.args.line (small c))

pub returns : goal.returns
returns c =
    ap (λ (z : ℤ). to_z w64 (of_z w64 (pos 0 -ℤ z))) (sum_is c.args.line (small c)) ∙ less-is c.args.line (small c)

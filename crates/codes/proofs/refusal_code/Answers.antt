-- `codes::refusal_code` meets its contract: a number of 32 bits, with its sign changed, fits 64.
-- Assumes nothing.
use mathlib.Core.Path.{◌≡◌, ap, ◌∙◌}
use Prim.Native.Nat.{ℕ, ◌<◌, ◌^◌}
use native.Mathlib.Omega.{arith}
use lib.IntN.{pos, neg_ℤ, ◌-ℤ◌}
use mir.Syntax.{w64}
use mir.Val.{SFits, of_z, to_z}
use mir.Facts.{to_z-of_z}
use Rattle.integers.proofs.Linear.{ints}
use Rattle.integers.proofs.Machine.{plain}
use Rattle.codes.proofs.refusal_code.Goals as goal
use Rattle.codes.proofs.refusal_code.Goals.{After-number}

fits-minus : (n : ℕ) → n < 2 ^ 63 → SFits w64 (pos 0 -ℤ to_z w64 n)
fits-minus n h = simp (plain, ints) (omega arith)

minus : (n : ℕ) → n < 2 ^ 63 → to_z w64 (of_z w64 (pos 0 -ℤ to_z w64 n)) ≡ neg_ℤ (pos n)
minus n h = to_z-of_z (fits-minus n h) ∙ simp (plain, ints) (omega arith)

small : (c : After-number) → c.number.result < 2 ^ 63
small c = omega (arith, c.number.type_inv)

pub overflow_sub-result : goal.overflow_sub-result
overflow_sub-result c = fits-minus c.number.result (small c)

pub returns : goal.returns
returns c = minus c.number.result (small c) ∙ ap (λ (n : ℕ). neg_ℤ (pos n)) c.number.ensures

-- `sheet_lines::magnitude` meets its contract, by cases on the sign.
-- Assumes nothing.
use Rattle.std.specs.Prelude.{ℤ}
use mathlib.Core.Path.{◌≡◌}
use Prim.Native.Nat.{◌+◌}
use lib.Dec.{T}
use lib.IntN.{pos, negsuc, nat_abs, ◌-ℤ◌}
use lib.Signed.{◌<ℤ◌, non_neg}
use mir.Syntax.{w32, w64}
use mir.Val.{SFits, Fits, to_z, of_z}
use Rattle.integers.proofs.Machine.{plain}
use Rattle.sheet_lines.proofs.Magnitudes.{wide, wide_fits, difference-fits, back_fits, sum_fits, sum_is, by-negative, by-positive, natural-fits}
use Rattle.sheet_lines.proofs.magnitude.Goals as goal
use Rattle.sheet_lines.proofs.magnitude.Goals.{Then-v-lt0}

negative : (c : Then-v-lt0) → c.args.v <ℤ pos 0
negative c = let f = c.ranges.v in simp plain at c.if-v-lt0.true

pub overflow_cast-result : goal.overflow_cast-result
overflow_cast-result c = wide_fits c.args.v c.ranges.v

pub overflow_sub-result : goal.overflow_sub-result
overflow_sub-result c = by-negative (λ v. (f : SFits w32 v) → SFits w64 (negsuc 0 -ℤ wide v f)) (λ n f. difference-fits n f) c.args.v (negative c) c.ranges.v

pub overflow_cast-result-then-v-lt0 : goal.overflow_cast-result-then-v-lt0
overflow_cast-result-then-v-lt0 c = by-negative (λ v. (f : SFits w32 v) → T (non_neg (to_z w64 (of_z w64 (negsuc 0 -ℤ wide v f)))) × Fits w64 (nat_abs (to_z w64 (of_z w64 (negsuc 0 -ℤ wide v f))))) (λ n f. back_fits n f) c.args.v (negative c) c.ranges.v

pub overflow_add-result : goal.overflow_add-result
overflow_add-result c = by-negative (λ v. (f : SFits w32 v) → Fits w64 (nat_abs (to_z w64 (of_z w64 (negsuc 0 -ℤ wide v f))) + 1)) (λ n f. sum_fits n f) c.args.v (negative c) c.ranges.v

pub overflow_cast-result-else-v-lt0 : goal.overflow_cast-result-else-v-lt0
overflow_cast-result-else-v-lt0 c = by-positive (λ v. (f : SFits w32 v) → T (non_neg (to_z w32 (of_z w32 v))) × Fits w64 (nat_abs (to_z w32 (of_z w32 v)))) (λ n f. natural-fits n f) c.args.v (let f = c.ranges.v in simp plain at c.if-v-lt0.false) c.ranges.v

pub returns-then-v-lt0 : goal.returns-then-v-lt0
returns-then-v-lt0 c = by-negative (λ v. (f : SFits w32 v) → nat_abs (to_z w64 (of_z w64 (negsuc 0 -ℤ wide v f))) + 1 ≡ nat_abs v) (λ n f. sum_is n f) c.args.v (negative c) c.ranges.v

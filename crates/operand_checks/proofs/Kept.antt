-- The operands of alter behind checks 7 and 9, and document 01's D behind check 10: it is at least n, which is positive.
-- Assumes nothing.
use mathlib.Core.Path.{◌≡◌, refl, ◌∙◌}
use mathlib.Core.Bool.{true, false}
use Prim.Native.Nat.{ℕ, ◌≤◌}
use native.Mathlib.Omega.{arith}
use lib.IntN.{ℤ, pos}
use lib.Signed.{◌≤ℤ◌}
use Rattle.integers.proofs.Linear.{ints, ◌∴◌}
use Rattle.calendar.specs.Meaning.{Row}
use Rattle.calendar.specs.Operation.{Operation}
use Rattle.calendar.specs.Operation.Operation.{binary}
use Rattle.calendar.specs.Operation.Binary.{alter}
use Rattle.calendar.specs.Operation.Alignment.{partition}
use Rattle.calendar.specs.Algebra.{Emptied}
use Rattle.calendar.specs.Granules.{full}
use Rattle.calendar.specs.Size.{turn, fine, coarse}
use Rattle.calendar.specs.Checks.{aligned_as, aligned, emptied}
use Rattle.granules.specs.Valid.{Valid}
use Rattle.granules.proofs.Tests.{false-iff}
use Rattle.granules.proofs.Count.{full-iff}
use Rattle.algebra.specs.Ready.{meaning}
use Rattle.algebra.proofs.Fine.{Partitioned}
use Rattle.algebra.proofs.Tiles.{rise-at-least}
use Rattle.algebra.proofs.AlterSize.{coarse_of, fine_of}
use Rattle.algebra.proofs.Altered.{coarse-positive, first-turn, altered-tiling}
use Rattle.algebra.proofs.OperandChecks.{aligned-iff}
use Rattle.algebra.proofs.EmptiedCheck.{emptied-iff}

module _ (x y : ℕ) (z : ℤ) (a b : Row) where
  abbrev altering : Operation Row
  altering = binary (alter x y z) a b

  aligned-is : aligned altering ≡ aligned_as partition a b
  unfolding aligned
  aligned-is = refl

  module _ (valid : Valid a × Valid b) (full-a : full a ≡ true) (full-b : full b ≡ true) (test : aligned_as partition a b ≡ true) where
    pub known : Partitioned a b
    known = record {
      valid = valid;
      full = ((full-iff a valid.0).0 full-a, (full-iff b valid.1).0 full-b);
      partition = (aligned-iff altering valid).0 (aligned-is ∙ test);
    }

    module _ (positive : 1 ≤ x) (passes : emptied altering ≡ false) where
      kept : ¬ (Emptied (meaning altering))
      kept = (false-iff (emptied-iff altering valid positive known.full known.partition)).0 passes

      -- n ≤ D
      pub fine-at-least : pos (coarse (turn a) (turn b) x) ≤ℤ fine (turn a) (turn b) x z
      fine-at-least = rise-at-least (altered-tiling a b known x y z positive kept) (coarse_of x a b) (fine_of x z a b) (first-turn a b known x y z positive)

      pub fine-positive : pos 1 ≤ℤ fine (turn a) (turn b) x z
      fine-positive = fine-at-least ∴ coarse-positive a b known x y z positive ∴ simp ints (omega arith)

-- A kind with one operand, given it twice: what holds of it holds over any second row.
-- Assumes nothing.
use mathlib.Core.Path.{◌≡◌, refl}
use mathlib.Core.Option.{some}
use mathlib.Core.Bool.{true}
use Prim.Native.Nat.{◌≤◌}
use native.Mathlib.Nat.{le_of_dvd, le_trans, dvd_refl}
use native.Mathlib.Omega.{arith}
use lib.IntN.{ℤ}
use Rattle.integers.proofs.Divisors.{lcm-least}
use Rattle.calendar.specs.Meaning.{Row}
use Rattle.calendar.specs.Operation.Operation.{bottom}
use Rattle.calendar.specs.Size.{turn, span_of}
use Rattle.calendar.specs.Compute.{result}
use Rattle.calendar.specs.Sound.{sound}
use Rattle.calendar.specs.Limits.{pool_limit}
use Rattle.granules.proofs.Sound.{sound-valid, sound-limits}
use Rattle.kinds.specs.declared.Kind.{Kind}
use Rattle.kinds.specs.declared.Kind.TheVariants.{Bottom, Group, Shift, Alter, Combine, Anchor, Select, ByLabels, Renumber}
use Rattle.kinds.specs.Operations.{operation_of, operands}
use Rattle.fill_shared.specs.Fillable.{Fillable}

-- the span of a row with itself is its period
own-span : (a : Row) → sound a ≡ true → span_of (turn a) (turn a) ≤ pool_limit
unfolding span_of
own-span a s =
    let p = (sound-valid a s).positive.0 in
    le_trans (le_of_dvd p (lcm-least a.period a.period a.period p (dvd_refl a.period) (dvd_refl a.period))) (sound-limits a s).1

pub fillable-twice : (k : Kind) (a b : Row) → operands k ≡ 1 → Fillable k a b → Fillable k a a
fillable-twice (Group x) a b e g = record { numbers = g.numbers; sounds = (g.sounds.0, g.sounds.0); ready = g.ready; at-most = own-span a g.sounds.0 }
fillable-twice (Shift x) a b e g = record { numbers = g.numbers; sounds = (g.sounds.0, g.sounds.0); ready = g.ready; at-most = own-span a g.sounds.0 }
fillable-twice (Renumber x) a b e g = record { numbers = g.numbers; sounds = (g.sounds.0, g.sounds.0); ready = g.ready; at-most = own-span a g.sounds.0 }
fillable-twice Bottom a b e g = absurd (omega arith)
fillable-twice (Alter w) a b e g = absurd (omega arith)
fillable-twice Combine a b e g = absurd (omega arith)
fillable-twice Anchor a b e g = absurd (omega arith)
fillable-twice (Select w) a b e g = absurd (omega arith)
fillable-twice (ByLabels w) a b e g = absurd (omega arith)

-- the operation itself, and its result
pub operation-over : (k : Kind) (a b : Row) → operands k ≡ 1 → operation_of k a a ≡ operation_of k a b
operation-over (Group x) a b e = refl
operation-over (Shift x) a b e = refl
operation-over (Renumber x) a b e = refl
operation-over Bottom a b e = absurd (omega arith)
operation-over (Alter w) a b e = absurd (omega arith)
operation-over Combine a b e = absurd (omega arith)
operation-over Anchor a b e = absurd (omega arith)
operation-over (Select w) a b e = absurd (omega arith)
operation-over (ByLabels w) a b e = absurd (omega arith)

-- bottom has none, and labels each instant with itself
pub bottom-of : (t : ℤ) → result bottom t ≡ some t
unfolding result
bottom-of t = refl

-- Alter's numbers n and D, as the code of sizes takes them.
-- Assumes nothing.
use mathlib.Core.Path.{◌≡◌, ap}
use mathlib.Core.List.{List}
use Prim.Native.Nat.{◌≤◌}
use native.Mathlib.Omega.{arith}
use lib.IntN.{ℤ, pos, negsuc}
use lib.Signed.{◌≤ℤ◌}
use Rattle.integers.specs.Parts.{up}
use Rattle.integers.proofs.Linear.{ints, ◌∴◌}
use Rattle.integers.proofs.Divisors.{lcm-pos}
use Rattle.calendar.specs.Meaning.{Row}
use Rattle.calendar.specs.Operation.{map_operation}
use Rattle.calendar.specs.Size as Size
use Rattle.calendar.specs.Size.{turn, span_of}
use Rattle.calendar.specs.Limits.{million}
use Rattle.calendar.specs.Questions.{given}
use Rattle.cursors.specs.Found.{Sound}
use Rattle.cursors.proofs.Numbers.{numbers}
use Rattle.kinds.specs.declared.Alteration.{Alteration}
use Rattle.sizes.specs.declared.Turn.{Turn}
use Rattle.sizes.specs.Stored.{Stored, Alterable}
use Rattle.kinds.specs.declared.Kind.TheVariants.{Alter}
use Rattle.kinds.specs.Operations.{operation_of}
use Rattle.fill_shared.specs.Fillable.{Fillable}

up-mono : (x y : ℤ) → x ≤ℤ y → up x ≤ up y
up-mono (pos m) (pos n) h = omega (arith, simp ints at h)
up-mono (pos m) (negsuc n) h = absurd h.le
up-mono (negsuc m) y h = omega arith

-- the span of two operands, as a number of the code
abbrev pub Span : Alteration → Row → Row → ℤ → Type 0
Span by a b span = span ≡ pos (Size.span (map_operation turn (operation_of (Alter by) a b)))

span-is : (by : Alteration) (a b : Row) (span : ℤ) → Span by a b span → span ≡ pos (span_of (turn a) (turn b))
unfolding Size.span
span-is by a b span e = e

span_pos : (a b : Row) → 1 ≤ a.period → 1 ≤ b.period → 1 ≤ span_of (turn a) (turn b)
unfolding span_of
span_pos a b h k = lcm-pos a.period b.period h k

-- the turn of a row, in the code of sizes
abbrev pub turn_at : ℤ → ℤ → Turn
turn_at period distance = record { period = up period; distance = up distance }

stored : (period distance : ℤ) (cells : List ℤ) → Sound period distance cells → Stored (turn_at period distance)
stored period distance cells s =
    let n = numbers period distance cells s in
    record { positive = n.low; distance-at-most = n.middle; period-at-most = omega (arith, n.high) }

-- the numbers of a sound row are positive
pub period-positive : (period distance : ℤ) (cells : List ℤ) → Sound period distance cells → pos 1 ≤ℤ period
period-positive period distance cells s = let n = numbers period distance cells s in n.period-is ∴ n.low ∴ n.middle ∴ simp ints (omega arith)

pub distance-positive : (period distance : ℤ) (cells : List ℤ) → Sound period distance cells → pos 1 ≤ℤ distance
distance-positive period distance cells s = let n = numbers period distance cells s in n.distance_is ∴ n.low ∴ simp ints (omega arith)

module _ (by : Alteration) (p n : ℤ) (k : List ℤ) (q m : ℤ) (l : List ℤ) (span : ℤ)
    (g : Fillable (Alter by) (given p n k) (given q m l)) (e : Span by (given p n k) (given q m l) span) where
  s : span ≡ pos (span_of (turn (given p n k)) (turn (given q m l)))
  s = span-is by (given p n k) (given q m l) span e

  pub span-positive : pos 1 ≤ℤ span
  span-positive =
      let a = numbers p n k g.sounds.0 in
      let b = numbers q m l g.sounds.1 in
      let h = span_pos (given p n k) (given q m l) (omega (arith, a.low, a.middle)) (omega (arith, b.low, b.middle)) in
      s ∴ h ∴ simp ints (omega arith)

  pub alterable : Alterable (turn_at p n) (turn_at q m) (up by.x) by.z (up span)
  alterable =
      let w = g.numbers in
      record {
        fine = stored p n k g.sounds.0;
        coarse = stored q m l g.sounds.1;
        spanned = ap up s;
        span-at-most = rw (ap up s) (omega (arith, g.at-most));
        positive = up-mono (pos 1) by.x w.x-low;
        x-at-most = up-mono by.x million w.x-high;
        low = w.z-low;
        high = w.z-high;
      }

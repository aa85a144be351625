-- What holds of the operation of a kind over sound rows, kind by kind.
-- Assumes nothing.
use mathlib.Core.Path.{◌≡◌}
use mathlib.Core.Bool.{true}
use Prim.Native.Nat.{ℕ, zero, suc, ◌≤◌, ◌<◌}
use native.Mathlib.Nat.{dvd_refl, le_of_dvd}
use native.Mathlib.Omega.{arith}
use lib.IntN.{ℤ, pos}
use lib.Signed.{◌≤ℤ◌}
use Rattle.integers.specs.Parts.{up}
use Rattle.integers.specs.Gcd.{lcm}
use Rattle.integers.proofs.Linear.{ints, ◌∴◌}
use Rattle.integers.proofs.Order.{up_pos}
use Rattle.integers.proofs.Divisors.{lcm-least}
use Rattle.calendar.specs.Meaning.{Row}
use Rattle.calendar.specs.Operation.{map_operation}
use Rattle.calendar.specs.Size.{turn, span, span_of}
use Rattle.calendar.specs.Sound.{sound}
use Rattle.algebra.specs.Ready.{Operands}
use Rattle.algebra.specs.Factor.{Factor}
use Rattle.kinds.specs.declared.Kind.{Kind}
use Rattle.kinds.specs.declared.Kind.TheVariants.{Bottom, Group, Shift, Alter, Combine, Anchor, Select, ByLabels, Renumber}
use Rattle.kinds.specs.Operations.{operation_of, operands, Numbers, SoundFirst}

positive : (x : ℤ) → pos 1 ≤ℤ x → 1 ≤ up x
positive x h = up_pos {z = x} (h ∴ simp ints (omega arith))

lcm-self : (n : ℕ) → lcm n n ≤ n
unfolding lcm
lcm-self zero = omega arith
lcm-self (suc n) = le_of_dvd (omega arith) (lcm-least (suc n) (suc n) (suc n) (omega arith) (dvd_refl (suc n)) (dvd_refl (suc n)))

twice : (a b : Row) (n : ℕ) → b ≡ a → a.period ≤ n → span_of (turn a) (turn b) ≤ n
unfolding span_of
twice a b n e h = rw e (omega (arith, lcm-self a.period))

module _ (a b : Row) where
  -- the rows of its operands are sound
  pub operands-sound : (k : Kind) → SoundFirst (operands k) a b → Operands (λ r. sound r ≡ true) (operation_of k a b)
  operands-sound Bottom h = tt
  operands-sound (Group x) h = h.0
  operands-sound (Shift x) h = h.0
  operands-sound (Alter w) h = h
  operands-sound Combine h = h
  operands-sound Anchor h = h
  operands-sound (Select x) h = h
  operands-sound (ByLabels x) h = h
  operands-sound (Renumber x) h = h.0

  -- its factor is at least 1
  pub factor-positive : (k : Kind) → Numbers k → Factor (operation_of k a b)
  factor-positive Bottom h = tt
  factor-positive (Group x) h = positive x h.0
  factor-positive (Shift x) h = tt
  factor-positive (Alter w) h = positive w.x h.x-low
  factor-positive Combine h = tt
  factor-positive Anchor h = tt
  factor-positive (Select x) h = tt
  factor-positive (ByLabels x) h = tt
  factor-positive (Renumber x) h = tt

  -- the span of two operands is at most n where the span of the operation is, or where they are one row that is no longer
  pub span-limit : (k : Kind) (n : ℕ) → (operands k < 2 → b ≡ a) → a.period ≤ n → span (map_operation turn (operation_of k a b)) ≤ n → span_of (turn a) (turn b) ≤ n
  unfolding span
  span-limit Bottom n e h s = twice a b n (e (omega arith)) h
  span-limit (Group x) n e h s = twice a b n (e (omega arith)) h
  span-limit (Shift x) n e h s = twice a b n (e (omega arith)) h
  span-limit (Alter w) n e h s = s
  span-limit Combine n e h s = s
  span-limit Anchor n e h s = s
  span-limit (Select x) n e h s = s
  span-limit (ByLabels x) n e h s = s
  span-limit (Renumber x) n e h s = twice a b n (e (omega arith)) h

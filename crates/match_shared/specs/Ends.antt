-- The ends of the working row of an operation. Labels never fall, so its first and its last label decide check 11.
use Rattle.std.specs.Prelude.{◌≡◌, ℤ, pos, ◌≤ℤ◌, ◌<ℤ◌}
use Rattle.std.proofs.Math.Option.{some}
use Rattle.calendar.specs.Meaning.{Row}
use Rattle.calendar.specs.Operation.{Operation}
use Rattle.calendar.specs.Compute.{result}

-- s, from a on and before b, is the first labelled instant there, and has the label i
pub record FirstIn (o : Operation Row) (a b s i : ℤ) : Type 0 where
  pub within : (a ≤ℤ s) × (s <ℤ b)
  pub label : result o s ≡ some i
  pub is-first : (t x : ℤ) → a ≤ℤ t → t <ℤ b → result o t ≡ some x → s ≤ℤ t

-- u is the last labelled instant before 0, and has the label j
pub record LastBefore (o : Operation Row) (u j : ℤ) : Type 0 where
  pub before : u <ℤ pos 0
  pub label : result o u ≡ some j
  pub is_last : (t x : ℤ) → t <ℤ pos 0 → result o t ≡ some x → t ≤ℤ u

-- What the relations of the algebra rule out, by small counterexamples.
use mathlib.Core.Path.{◌≡◌, refl}
use mathlib.Core.Option.{none, some}
use mathlib.Core.List.{[], ◌∷◌}
use native.Mathlib.Omega.{arith}
use lib.IntN.{ℤ, pos, ◌+ℤ◌}
use lib.Signed.{le_z_yes}
use Rattle.integers.proofs.Linear.{ints, ◌∴◌}
use Rattle.calendar.specs.Meaning.{Row, Calendar, meant, empty}
use Rattle.calendar.specs.Operation.Unary.{group}
use Rattle.calendar.specs.Operation.Operation.{unary}
use Rattle.calendar.specs.Algebra.{Partition, Subcalendar, Compatible, FullOperands}

some_inj : {j k : ℤ} → some j ≡ some k → j ≡ k
some_inj p = cc

-- every other whole number is a label: not full, so not to be grouped
abbrev pub evens : Calendar
evens t = some (t +ℤ t)

pub evens-not-full : (x : Prim.Native.Nat.ℕ) → ¬ (FullOperands (unary (group x) evens))
evens-not-full x h = some_inj (h (pos 1)).1 ∴ simp ints (omega arith)

-- odd days [. 1], and even days that are labelled 2 higher [2 .]: no label is shared, and labels fall from instant 0 to 1
abbrev pub odd : Row
odd = record { period = 2; distance = 2; cells = empty ∷ pos 1 ∷ [] }

abbrev pub late : Row
late = record { period = 2; distance = 2; cells = pos 2 ∷ empty ∷ [] }

pub falling-not-compatible : ¬ (Compatible (meant odd) (meant late))
unfolding meant
falling-not-compatible h = ((h.ordered (pos 0) (pos 1) (pos 2) (pos 1) (le_z_yes tt)).1 refl refl).le

-- an instant with two labels
pub two-labels-not-compatible : ¬ (Compatible (λ t. some t) (λ t. some (t +ℤ pos 1)))
two-labels-not-compatible h = h.single (pos 0) (pos 0) (pos 1) refl refl ∴ simp ints (omega arith)

-- odd days are a part of all days; all days are no part of them
pub part-of-days : Subcalendar (λ t. some t) (meant odd) → ¬ (Subcalendar (meant odd) (λ t. some t))
unfolding meant
part-of-days p h = (let z : none ≡ some (pos 0) = (h (pos 0) (pos 0, refl) (pos 0)).0 refl in let q : ◌≡◌ {A = Prim.Native.Nat.ℕ} 0 1 = cc in omega arith)

-- a fine calendar must label the same instants as the coarse one
pub gaps-not-partitioned : ¬ (Partition (λ t. some t) (meant odd))
unfolding meant
gaps-not-partitioned h =
    let z : none ≡ some ((h.labelled (pos 0)).0 (pos 0, refl)).0 = ((h.labelled (pos 0)).0 (pos 0, refl)).1 in
    let q : ◌≡◌ {A = Prim.Native.Nat.ℕ} 0 1 = cc in
    omega arith

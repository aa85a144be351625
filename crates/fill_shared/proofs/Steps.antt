-- The step of a loop over two operands: what it asks, and what it ensures, of the rows as they stood before the loop. P and Q are what the loop's states have, at an instant.
-- Assumes nothing.
use mathlib.Core.Path.{◌≡◌}
use mathlib.Core.Option.{Option}
use mathlib.Core.Bool.{Bool}
use mathlib.Core.List.{List}
use Prim.Native.Nat.{ℕ, ◌+◌, ◌<◌}
use lib.IntN.{ℤ, pos, ◌+ℤ◌}
use lib.Signed.{◌<ℤ◌}
use mir.Syntax.{w64}
use mir.Val.{to_z}
use Rattle.calendar.specs.Meaning.{Row}
use Rattle.calendar.specs.Compute.{result}
use Rattle.calendar.specs.Limits.{pool_limit}
use Rattle.kinds.specs.declared.Kind.{Kind}
use Rattle.kinds.specs.Operations.{operation_of}
use Rattle.fill_shared.specs.Fillable.{Fillable}
use Rattle.fill_shared.proofs.Filling.{Lent, Filling, row_of, rows-kept, rows-stood, filling-instant, filling-below, still-fillable}

module _ (k : Kind) (a b : Lent) (at period : ℕ) (old new : List ℤ) (labelled : Bool) (t : ℕ) (h : Filling k a b at period old new labelled t) (m : t < period) where
  pub step-asks : (P : Row → Row → ℤ → Type 0) → P (row_of a old) (row_of b old) (pos t)
      → Fillable k (row_of a new) (row_of b new) × (P (row_of a new) (row_of b new) (to_z w64 t) × (to_z w64 t <ℤ pos pool_limit))
  step-asks P p =
      rw (filling-instant k a b at period old new labelled t h m) (
        still-fillable k a b at period old new labelled t h m,
        (rows-kept k a b at period old new labelled t h (λ x y. P x y (pos t)) p, filling-below k a b at period old new labelled t h m),
      )

  pub step-gave : (l : Option ℤ) (Q : Row → Row → ℤ → Type 0)
      → (l ≡ result (operation_of k (row_of a new) (row_of b new)) (to_z w64 t)) × Q (row_of a new) (row_of b new) (to_z w64 t +ℤ pos 1)
      → (l ≡ result (operation_of k (row_of a old) (row_of b old)) (pos t)) × Q (row_of a old) (row_of b old) (pos (t + 1))
  step-gave l Q e =
      rows-stood k a b at period old new labelled t h (λ x y. (l ≡ result (operation_of k x y) (pos t)) × Q x y (pos t +ℤ pos 1))
      (rw (filling-instant k a b at period old new labelled t h m) at e)

-- Terms of the algebra, and what it is for a calendar to be the value of one.
use Rattle.std.specs.Prelude.{◌≡◌, ◌⊎◌, ℕ}
use Rattle.calendar.specs.Meaning.{Calendar, Same, IsCalendar}
use Rattle.calendar.specs.Operation.{Unary, Binary, Operation}
use Rattle.calendar.specs.Algebra.{Result, FullOperands, Aligned, Emptied}
use Rattle.algebra.specs.Factor.{Factor}

-- an operand by number, or an operation over terms
pub data Term : Type 0 where
  operand : ℕ → Term
  bottom : Term
  unary : Unary → Term → Term
  binary : Binary → Term → Term → Term

-- the operand n stands in the term
abbrev pub Occurs : ℕ → Term → Type 0
Occurs n (operand m) = n ≡ m
Occurs n bottom = ⊥
Occurs n (unary u s) = Occurs n s
Occurs n (binary o s s') = Occurs n s ⊎ Occurs n s'

-- an operation that is allowed, with its result
pub record Defined (o : Operation Calendar) (c : Calendar) : Type 0 where
  pub factor : Factor o
  pub full : FullOperands o
  pub aligned : Aligned o
  pub kept : ¬ (Emptied o)
  pub result : Result o c
  pub calendar : IsCalendar c

-- c is the value of the term, its operands being those of v
abbrev pub Value : (ℕ → Calendar) → Term → Calendar → Type 0
Value v (operand n) c = Same c (v n)
Value v bottom c = Defined Operation.bottom c
Value v (unary u s) c = (a : Calendar) × Value v s a × Defined (Operation.unary u a) c
Value v (binary o s s') c = (a : Calendar) × (b : Calendar) × Value v s a × Value v s' b × Defined (Operation.binary o a b) c

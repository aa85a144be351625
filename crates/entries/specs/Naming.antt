-- What an entry names, as the code holds it.
use Rattle.calendar.specs.declared.Refusal.{Refusal}
use Rattle.std.specs.Prelude.{◌≡◌, ℕ, zero, suc, ◌≤◌, ◌<◌, ℤ, Ok, Err, Result}
use Rattle.integers.specs.Parts.{up}
use Rattle.calendar.specs.Operation.{Operation}
use Rattle.calendar.specs.Refusals.{number_of}
use Rattle.calendar.specs.Reply.{Reply}
use Rattle.calendar.specs.Reply.Reply.{refused, answer}
use Rattle.entries.specs.declared.Entry.{Entry}
use Rattle.algebra.specs.Ready.{Operands}
use Rattle.kinds.specs.declared.Kind.{Kind}
use Rattle.kinds.specs.Operations.{operation_of, operands, Numbers}
use Rattle.entries.specs.declared.Named.{Named}

-- the kind of the operation o over entries, which the entry names
pub record KindOf (e : Entry) (o : Operation ℕ) (kind : Kind) : Type 0 where
  pub is : operation_of kind (up e.first) (up e.second) ≡ o
  pub numbers : Numbers kind

-- the second of the operands of a kind that names so many; it is the first where the kind names fewer than two
abbrev pub second_of : ℕ → ℤ → ℤ → ℤ
second_of zero first second = first
second_of (suc zero) first second = first
second_of (suc (suc n)) first second = second

-- n names the operation o, over entries that are among the k before
pub record Names (k : ℕ) (o : Operation ℕ) (n : Named) : Type 0 where
  pub is : operation_of n.kind n.first n.second ≡ o
  pub numbers : Numbers n.kind
  pub first : n.first ≤ k
  pub second : n.second ≤ k
  pub earlier : Operands (λ j. j < k) o
  pub twice : operands n.kind < 2 → n.second ≡ n.first

-- what is read of the entry behind k others, where checks 4, 5 and 6 come to x
abbrev pub Reads : ℕ → Reply (Operation ℕ) → Result Named Refusal → Type 0
Reads k x (Err n) = x ≡ refused (number_of n)
Reads k x (Ok n) = (o : Operation ℕ) × (x ≡ answer o) × Names k o n

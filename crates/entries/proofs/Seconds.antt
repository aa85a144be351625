-- The second operand of a kind, and what an entry then names.
-- Assumes nothing.
use mathlib.Core.Path.{◌≡◌, refl, ◌∙◌, ap, ap₂}
use Prim.Native.Nat.{ℕ, zero, suc, ◌≤◌, ◌<◌}
use native.Mathlib.Omega.{arith}
use lib.IntN.{ℤ, pos, nat_abs}
use lib.Signed.{◌≤ℤ◌}
use mir.Syntax.{w32}
use mir.Val.{SFits, of_z, to_z}
use mir.ValLaws.{to_z-of_z}
use Rattle.integers.specs.Parts.{up}
use Rattle.calendar.specs.Operation.{Operation}
use Rattle.calendar.specs.Reply.Reply.{answer}
use Rattle.calendar.specs.Table.{named}
use Rattle.algebra.proofs.Named.{named-operation}
use Rattle.entries.specs.declared.Entry.{Entry}
use Rattle.entries.specs.Entries.{entry_of}
use Rattle.entries.proofs.Fields.{Fields}
use Rattle.kinds.specs.declared.Kind.{Kind}
use Rattle.kinds.specs.declared.Kind.TheVariants.{Bottom, Group, Shift, Alter, Combine, Anchor, Select, ByLabels, Renumber}
use Rattle.kinds.specs.Operations.{operation_of, operands}
use Rattle.entries.specs.Naming.{KindOf, second_of, Names}
use Rattle.entries.proofs.Naturals.{nat_abs-up}
use Rattle.entries.proofs.Passing.{Passed, passed}

-- an operand that is not named does not show
second-same : (k : Kind) (f s : ℤ) → operation_of k (up f) (up (second_of (operands k) f s)) ≡ operation_of k (up f) (up s)
second-same Bottom f s = refl
second-same (Group x) f s = refl
second-same (Shift x) f s = refl
second-same (Alter w) f s = refl
second-same Combine f s = refl
second-same Anchor f s = refl
second-same (Select x) f s = refl
second-same (ByLabels x) f s = refl
second-same (Renumber x) f s = refl

-- what holds of both holds of the second
second-either : (P : ℤ → Type 0) (n : ℕ) (f s : ℤ) → P f → P s → P (second_of n f s)
second-either P zero f s p q = p
second-either P (suc zero) f s p q = p
second-either P (suc (suc n)) f s p q = q

second-first : (n : ℕ) (f s : ℤ) → n < 2 → second_of n f s ≡ f
second-first zero f s h = refl
second-first (suc zero) f s h = refl
second-first (suc (suc n)) f s h = absurd (omega arith)

-- z is the second operand of the kind, as the machine makes it
module _ (e : Entry) (fields : Fields e) (kind : Kind) (z : ℤ) (is : z ≡ second_of (operands kind) (to_z w32 (of_z w32 e.first)) (to_z w32 (of_z w32 e.second))) where
  pub second_is : z ≡ second_of (operands kind) e.first e.second
  second_is = is ∙ ap₂ (second_of (operands kind)) (to_z-of_z w32 e.first fields.first) (to_z-of_z w32 e.second fields.second)

  pub second_fits : SFits w32 z
  second_fits = rw second_is (second-either (SFits w32) (operands kind) e.first e.second fields.first fields.second)

  pub second-low : pos 0 ≤ℤ e.first → pos 0 ≤ℤ e.second → pos 0 ≤ℤ z
  second-low f s = rw second_is (second-either (λ s. pos 0 ≤ℤ s) (operands kind) e.first e.second f s)

  module _ (k : ℕ) (o : Operation ℕ) (h : named k (entry_of e) ≡ answer o) where
    p : Passed k (entry_of e) o
    p = passed k (entry_of e) o h

    second-high : up z ≤ k
    second-high = rw second_is (second-either (λ s. up s ≤ k) (operands kind) e.first e.second p.first p.second)

    first_read : nat_abs (to_z w32 (of_z w32 e.first)) ≡ up e.first
    first_read = ap nat_abs (to_z-of_z w32 e.first fields.first) ∙ nat_abs-up p.first-low

    second-read : nat_abs (to_z w32 (of_z w32 z)) ≡ up z
    second-read = ap nat_abs (to_z-of_z w32 z second_fits) ∙ nat_abs-up (second-low p.first-low p.second-low)

    pub names-all : KindOf e o kind → Names k o (record { kind = kind; first = nat_abs (to_z w32 (of_z w32 e.first)); second = nat_abs (to_z w32 (of_z w32 z)) })
    names-all n = rw (first_read, second-read) (record {
      is = ap (λ (s : ℤ). operation_of kind (up e.first) (up s)) second_is ∙ second-same kind e.first e.second ∙ n.is;
      numbers = n.numbers;
      first = p.first;
      second = second-high;
      earlier = (named-operation k (entry_of e) o h).1;
      twice = λ l. ap up (second_is ∙ second-first (operands kind) e.first e.second l);
    })

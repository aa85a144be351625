-- Values of terms: an operation has one result, and an operand's value is the operand itself.
use mathlib.Core.Path.{subst, subst₂, fun_ext}
use mathlib.Core.Logic.Iff
use Prim.Native.Nat.{ℕ}
use Rattle.calendar.specs.Meaning.{Calendar, Same}
use Rattle.calendar.specs.Operation.{Unary, Binary, Operation}
use Rattle.calendar.specs.Algebra.{Result}
use Rattle.granules.proofs.Tests.{label-ext}
use Rattle.laws.specs.Terms.{Term, Defined, Value}
use Rattle.laws.specs.Terms.Term.{operand, unary, binary}

pub result-unique : (o : Operation Calendar) (x y : Calendar) → Result o x → Result o y → Same x y
result-unique o x y X Y t = label-ext λ i. Iff.trans (X t i) (Iff.symm (Y t i))

module _ (v : ℕ → Calendar) {c : Calendar} where
  pub unary-at : (u : Unary) (n : ℕ) → Value v (unary u (operand n)) c → Defined (Operation.unary u (v n)) c
  unary-at u n (a, e, d) = subst (λ (a : Calendar). Defined (Operation.unary u a) c) (fun_ext e) d

  pub left_at : (o : Binary) (m : ℕ) (s : Term) → Value v (binary o (operand m) s) c → (b : Calendar) × Value v s b × Defined (Operation.binary o (v m) b) c
  left_at o m s (a, b, e, B, d) = (b, B, subst (λ (a : Calendar). Defined (Operation.binary o a b) c) (fun_ext e) d)

  pub right-at : (o : Binary) (s : Term) (n : ℕ) → Value v (binary o s (operand n)) c → (a : Calendar) × Value v s a × Defined (Operation.binary o a (v n)) c
  right-at o s n (a, b, A, e, d) = (a, A, subst (λ (b : Calendar). Defined (Operation.binary o a b) c) (fun_ext e) d)

  pub binary-at : (o : Binary) (m n : ℕ) → Value v (binary o (operand m) (operand n)) c → Defined (Operation.binary o (v m) (v n)) c
  binary-at o m n (a, b, e, f, d) = subst₂ (λ a b. Defined (Operation.binary o a b) c) (fun_ext e) (fun_ext f) d

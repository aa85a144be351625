-- An entry that passes checks 4, 5 and 6 names an operation over earlier entries, with a factor of at least 1.
use mathlib.Core.Path.{◌≡◌, refl, subst}
use mathlib.Core.Bool.{Bool, true, ◌&&◌, ◌||◌}
use mathlib.Core.List.{List, [], ◌∷◌}
use Prim.Native.Nat.{ℕ, zero, suc, ◌≤◌, ◌<◌}
use native.Mathlib.Omega.{arith}
use lib.Dec.{leb, ltb}
use lib.IntN.{ℤ, pos, negsuc}
use lib.Signed.{le_z}
use lib.ListN.{get_or}
use Rattle.integers.specs.Parts.{up}
use Rattle.integers.proofs.Linear.{ints, ◌∴◌}
use Rattle.integers.proofs.Order.{up_pos}
use Rattle.calendar.specs.Operation.{Unary, Binary, Operation}
use Rattle.calendar.specs.Reply.Reply.{answer}
use Rattle.calendar.specs.Limits.{between, million}
use Rattle.calendar.specs.Table.{Entry, Kind, kinds, one, two, no_operand, zero?, earlier, named}
use Rattle.granules.proofs.Tests.{true≢false, and-iff, le_z-iff, ltb_iff}
use Rattle.granules.proofs.Replies.{require-answer}
use Rattle.algebra.specs.Ready.{Operands}
use Rattle.algebra.specs.Factor.{Factor, FactorUnary, FactorBinary}

infixr 5 ◌then◌
-- what an entry behind k others names
record Names (k : ℕ) (o : Operation ℕ) : Type 0 where
  factor : Factor o
  operands : Operands (λ j. j < k) o

-- the operation of a kind is such a one, where the operands that it has are earlier and its numbers within their limits
abbrev Good : Kind → Type 0
Good m = (k : ℕ) (e : Entry) → ltb m.operands 1 || earlier k e.first ≡ true → ltb m.operands 2 || earlier k e.second ≡ true
    → m.numbers e ≡ true → Names k (m.operation e)

earlier-lt : (k : ℕ) (z : ℤ) → earlier k z ≡ true → up z < k
earlier-lt k (pos n) e = (ltb_iff n k).0 e
earlier-lt k (negsuc n) e = absurd (true≢false e refl)

no-operand-good : Good no_operand
no-operand-good k e p q h = record { factor = tt; operands = tt }

one-good : (f : Entry → Bool) (u : Entry → Unary) → ((e : Entry) → f e ≡ true → FactorUnary (u e)) → Good (one f u)
one-good f u h k e p q n = record { factor = h e n; operands = earlier-lt k e.first p }

two_good : (f : Entry → Bool) (o : Entry → Binary) → ((e : Entry) → f e ≡ true → FactorBinary (o e)) → Good (two f o)
two_good f o h k e p q n = record { factor = h e n; operands = (earlier-lt k e.first p, earlier-lt k e.second q) }

-- x is a factor
factor-positive : (x : ℤ) (b : Bool) → between (pos 1) million x && b ≡ true → 1 ≤ up x
factor-positive x b e =
    let l = (le_z-iff (pos 1) x).0 ((and-iff (le_z (pos 1) x) (le_z x million)).0 ((and-iff (between (pos 1) million x) b).0 e).0).0 in
    up_pos {z = x} (l ∴ simp ints (omega arith))

data AllGood : List Kind → Type 0 where
  end : AllGood []
  ◌then◌ : {m : Kind} {l : List Kind} → Good m → AllGood l → AllGood (m ∷ l)

get_or-good : {l : List Kind} → AllGood l → (n : ℕ) → Good (get_or l n no_operand)
get_or-good end n = no-operand-good
get_or-good (h then l) zero = h
get_or-good (h then l) (suc n) = get_or-good l n

kinds-good : AllGood kinds
kinds-good =
    no-operand-good
    then one-good _ _ (λ e. factor-positive e.x _)
    then one-good _ _ (λ e h. tt)
    then two_good _ _ (λ e. factor-positive e.x _)
    then two_good _ _ (λ e h. tt)
    then two_good _ _ (λ e h. tt)
    then two_good _ _ (λ e h. tt)
    then two_good _ _ (λ e h. tt)
    then two_good _ _ (λ e h. tt)
    then two_good _ _ (λ e h. tt)
    then two_good _ _ (λ e h. tt)
    then two_good _ _ (λ e h. tt)
    then one-good _ _ (λ e h. tt)
    then end

pub named-operation : (k : ℕ) (e : Entry) (o : Operation ℕ) → named k e ≡ answer o → Factor o × Operands (λ j. j < k) o
unfolding named
named-operation k e o h =
    let m = get_or kinds (up e.kind) no_operand in
    let n = m.operands in
    let first = ltb n 1 || earlier k e.first in
    let second = ltb n 2 || earlier k e.second in
    let r₄ = require-answer 4 (between (pos 0) (pos 12) e.kind) _ h in
    let r₅ = require-answer 5 (first && second) _ r₄.1 in
    let r₆ = require-answer 6 ((leb 1 n || zero? e.first) && ((leb 2 n || zero? e.second) && m.numbers e)) _ r₅.1 in
    let p = (and-iff first second).0 r₅.0 in
    let q = ((and-iff (leb 2 n || zero? e.second) (m.numbers e)).0 ((and-iff (leb 1 n || zero? e.first) _).0 r₆.0).1).1 in
    let g = get_or-good kinds-good (up e.kind) k e p.0 p.1 q in
    let is : m.operation e ≡ o = cc r₆.1 in
    subst (λ (o : Operation ℕ). Factor o × Operands (λ j. j < k) o) is (g.factor, g.operands)

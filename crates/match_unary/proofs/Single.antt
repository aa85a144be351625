-- Group, shift and renumber have one operand, and their result goes through its labels.
-- Assumes nothing.
use mathlib.Core.Path.{◌≡◌, refl, sym, ◌∙◌, ap}
use mathlib.Core.Option.{map}
use mathlib.Core.Bool.{true}
use mathlib.Core.List.{List}
use Prim.Native.Nat.{ℕ}
use lib.IntN.{ℤ, pos}
use Rattle.calendar.specs.Meaning.{Row, meant}
use Rattle.calendar.specs.Operation.{Operation, map_operation}
use Rattle.calendar.specs.Size as Size
use Rattle.calendar.specs.Size.{turn}
use Rattle.calendar.specs.Distance.{size}
use Rattle.calendar.specs.Compute.{result}
use Rattle.calendar.specs.Sound.{sound}
use Rattle.kinds.specs.declared.Kind.{Kind}
use Rattle.kinds.specs.declared.Operand.{Operand}
use Rattle.kinds.specs.Operations.{operation_of, operands, SoundFirst}
use Rattle.kinds.specs.Stands.{row_in}
use Rattle.fill_shared.proofs.Single.{operation-over}
use Rattle.match_shared.specs.Claims.{Claimed}
use Rattle.match_unary.specs.declared.Unary.{Unary}
use Rattle.match_unary.specs.declared.Unary.TheVariants.{Group, Shift, Renumber}
use Rattle.match_unary.specs.Numbered.{kind_of, number_in}

pub one-operand : (by : Unary) → operands (kind_of by) ≡ 1
one-operand (Group x) = refl
one-operand (Shift x) = refl
one-operand (Renumber x) = refl

pub sound-first : (by : Unary) (a b : Row) → SoundFirst (operands (kind_of by)) a b → sound a ≡ true
sound-first (Group x) a b h = h.0
sound-first (Shift x) a b h = h.0
sound-first (Renumber x) a b h = h.0

pub result-is : (by : Unary) (a b : Row) (t : ℤ) → result (operation_of (kind_of by) a b) t ≡ map (number_in by a) (meant a t)
unfolding result
result-is (Group x) a b t = refl
result-is (Shift x) a b t = refl
result-is (Renumber x) a b t = refl

-- the operand in the place of the second row
pub claimed-twice : {k : Kind} {a b r : Operand} {span : ℤ} {period : ℕ} {pool : List ℤ} → operands k ≡ 1 → Claimed k a b r span period pool → Claimed k a a r span period pool
claimed-twice {k} {a} {b} {r} {span} {period} {pool} one h =
    let e = sym (operation-over k (row_in pool a) (row_in pool b) one) in
    record {
      a-period = h.a-period;
      b-period = h.a-period;
      r-period = h.r-period;
      a-end = h.a-end;
      b_end = h.a-end;
      claim = h.claim;
      room = h.room;
      at-most = h.at-most;
      is-span = h.is-span ∙ ap (λ (o : Operation Row). pos (Size.span (map_operation turn o))) e;
      is-period = h.is-period ∙ ap (λ (o : Operation Row). (size o).period) e;
    }

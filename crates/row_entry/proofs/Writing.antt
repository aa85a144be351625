-- What an operation over rows of a pool has shown before its working row is filled in, and behind.
-- Assumes nothing.
use Rattle.calendar.specs.declared.Refusal.{Refusal}
use Rattle.std.specs.Prelude.{Ok, Result, ⊤}
use mathlib.Core.Path.{◌≡◌, sym, ◌∙◌, ap}
use mathlib.Core.Bool.{true, false}
use mathlib.Core.List.{List, ◌++◌}
use Prim.Native.Nat.{ℕ, ◌+◌, ◌-◌, ◌≤◌}
use native.Mathlib.Omega.{arith}
use lib.IntN.{ℤ, pos, nat_abs}
use lib.Signed.{◌≤ℤ◌}
use lib.ListN.{length, take, drop}
use mir.Syntax.{w64}
use mir.Val.{SFits, of_z, to_z}
use mir.ValLaws.{to_z-of_z}
use Rattle.integers.specs.Parts.{up}
use Rattle.integers.proofs.Linear.{ints}
use Rattle.calendar.specs.Meaning.{Row}
use Rattle.calendar.specs.Operation.{Operation, map_operation}
use Rattle.calendar.specs.Size.{turn, span}
use Rattle.calendar.specs.Distance.{size}
use Rattle.calendar.specs.Compute.{working}
use Rattle.calendar.specs.Checks.{unlabelled, labels_in_range}
use Rattle.calendar.specs.Limits.{pool_limit}
use Rattle.calendar.specs.Sound.{sound}
use Rattle.calendar.specs.Least.{least}
use Rattle.calendar.specs.Questions.{given}
use Rattle.calendar.specs.Reply.Reply.{answer}
use Rattle.calendar.specs.Outcome.{converted}
use Rattle.granules.proofs.Tests.{leb-iff}
use Rattle.algebra.specs.Ready.{Operands, Ready}
use Rattle.operand_checks.specs.declared.Extent.{Extent}
use Rattle.operand_checks.specs.Admission.{admission}
use Rattle.kinds.specs.declared.Kind.{Kind}
use Rattle.kinds.specs.declared.Operand.{Operand}
use Rattle.kinds.specs.Stands.{row_in}
use Rattle.fill_shared.specs.Fillable.{Fillable}
use Rattle.fill_shared.specs.Placed.{Placed, over, filled_as}
use Rattle.row_entry.specs.Entering.{Enterable, Worked, Added, Became}
use Rattle.entries.proofs.Naturals.{nat_abs-up}
use Rattle.row_entry.proofs.Sounds.{operands-sound, factor-positive, span-limit}
use Rattle.row_entry.proofs.Admitted.{Admitted, admitted, ready, all-labelled}
use Rattle.row_entry.proofs.Filled.{working-length, working-sound, worked, added-before}

-- the numbers of an extent fit their width
pub record ExtentFits (x : Extent) : Type 0 where
  pub span : SFits w64 x.span
  pub period : SFits w64 x.period
  pub distance : SFits w64 x.distance

module _ (kind : Kind) (x : Extent) (a b : Operand) (k used : ℕ) (headings : List ℕ) (pool : List ℤ)
    (e : Enterable kind a b k used headings pool) (h : admission (over kind pool a b) (length pool - used) ≡ answer x) (f : ExtentFits x) where
  abbrev o : Operation Row
  o = over kind pool a b

  pub passed : Admitted o (length pool - used) x
  passed = admitted o (length pool - used) x h

  period-is : x.period ≡ pos (size o).period
  period-is = ap (λ (x : Extent). x.period) (sym passed.is)

  pub period-low : pos 0 ≤ℤ x.period
  period-low = rw period-is (simp ints (omega arith))

  -- the working period, as the machine holds it
  pub period-read : nat_abs (to_z w64 (of_z w64 x.period)) ≡ (size o).period
  period-read = ap nat_abs (to_z-of_z w64 x.period f.period) ∙ nat_abs-up period-low ∙ ap up period-is

  period-fits : used + (size o).period ≤ length pool
  period-fits = omega (arith, (leb-iff (size o).period (length pool - used)).0 passed.period-in, e.fits)

  sounds : Operands (λ r. sound r ≡ true) o
  sounds = operands-sound (row_in pool a) (row_in pool b) kind e.sounds

  is-ready : Ready o
  is-ready = ready o (length pool - used) x passed sounds (factor-positive (row_in pool a) (row_in pool b) kind e.numbers)

  -- ---- what filling in asks

  pub is-given : Fillable kind (row_in pool a) (row_in pool b)
  is-given = record {
    numbers = e.numbers;
    sounds = e.sounds;
    ready = is-ready;
    at-most = span-limit (row_in pool a) (row_in pool b) kind pool_limit (λ l. ap (row_in pool) (e.twice l))
        (omega (arith, e.a-before.ends, e.fits, e.at-most))
        (omega (arith, (leb-iff (span (map_operation turn o)) (length pool - used)).0 passed.span-in, e.at-most));
  }

  pub placed : Placed kind a b (to_z w64 (of_z w64 x.span)) used (nat_abs (to_z w64 (of_z w64 x.period))) pool
  placed = record {
    a-period = e.a-before.period;
    b-period = e.b-before.period;
    a-end = e.a-before.ends;
    b_end = e.b-before.ends;
    room = omega (arith, period-read, period-fits);
    at-most = e.at-most;
    is-span = to_z-of_z w64 x.span f.span ∙ ap (λ (x : Extent). x.span) (sym passed.is);
    is-period = period-read;
  }

  -- ---- behind it

  module _ (after : List ℤ) (r : Result ⊤ Refusal) (found : r ≡ filled_as o) (labelled : r ≡ (Ok tt))
      (is : labels_in_range o ≡ true → after ≡ take used pool ++ ((working o).cells ++ drop (used + nat_abs (to_z w64 (of_z w64 x.period))) pool)) where
    all_in : (unlabelled o ≡ false) × (labels_in_range o ≡ true) × (converted o (length pool - used) ≡ answer (least (working o)))
    all_in = all-labelled o (length pool - used) x passed r found labelled

    after_is : after ≡ take used pool ++ ((working o).cells ++ drop (used + (size o).period) pool)
    after_is = is all_in.1 ∙ ap (λ (n : ℕ). take used pool ++ ((working o).cells ++ drop (used + n) pool)) period-read

    cells-length : length (working o).cells ≡ (size o).period
    cells-length = working-length o is-ready all_in.0 all_in.1

    pub is-worked : Worked x.period x.distance used after
    is-worked =
        worked o used pool after period-fits cells-length after_is x passed.is e.at-most
        (working-sound o is-ready all_in.0 all_in.1 sounds (omega (arith, period-fits, e.at-most)))

    pub became : (last : List ℤ) (numbers : List ℕ) (n : ℕ)
        → Added k used headings after (least (given x.period x.distance (take (up x.period) (drop used after)))) n numbers last
        → Became k used headings pool (converted o (length pool - used)) (Ok n) numbers last
    became last numbers n d = (least (working o), all_in.2, added-before o used pool after period-fits cells-length after_is x passed.is k headings numbers n last d)

-- `fill_unary::shifting::fill_shift` meets its contract: each turn of the loop writes the cell of one instant.
-- Assumes nothing.
use Rattle.calendar.specs.declared.Refusal.{Refusal}
use Rattle.std.specs.Prelude.{Result, ⊤}
use borrow.Author.Rules.{sfits_of}
use borrow.Author.Tests.{not-true, not-false}
use mathlib.Core.Path.{◌≡◌, refl, sym, ◌∙◌, ap}
use mathlib.Core.Logic.{inl, inr}
use mathlib.Core.List.{List}
use Prim.Native.Nat.{ℕ, ◌+◌, ◌≤◌, ◌<◌}
use native.Mathlib.Omega.{arith}
use lib.IntN.{ℤ, pos}
use lib.ListN.{length, get_or}
use mir.Facts.{to_z-of_z}
use mir.Syntax.{w32, w64}
use mir.Val.{SFits, to_z, of_z}
use Rattle.integers.proofs.Linear.{ints, ◌∴◌}
use Rattle.calendar.specs.Limits.{pool_limit}
use Rattle.calendar.specs.Meaning.{label_of, raise}
use Rattle.calendar.specs.Operation.Unary.{shift}
use Rattle.calendar.specs.Operation.Operation.{unary}
use Rattle.kinds.specs.Stands.{row_in}
use Rattle.fill_shared.specs.Placed.{Fills}
use Rattle.fill_unary.proofs.Shifts.{Shifts, Shifted, Counts, shift-period, shifted_none, shifted-index, shifted-bound, shifted-more, shifted-out, shifted-done}
use Rattle.fill_unary.proofs.shifting.fill_shift.Goals as goal
use Rattle.fill_unary.proofs.shifting.fill_shift.Goals.{After-raised-arg-1, After-raised-cell, At-loop-t, In-loop-t, Joined-is_outside, Start as Start-place, then-is_outside, else-is_outside}

abbrev Start : Type 0
Start = Start-place

-- the number as the machine has it
abbrev X : Start → ℤ
X s = to_z w64 (of_z w64 s.args.x)

shifts : (s : Start) → Shifts (X s) s.args.a s.args.at s.args.period s.args.pool.now
shifts s = record {
  bound = rw (to_z-of_z s.ranges.x) s.requires.fillable.numbers;
  is-sound = s.requires.fillable.sounds.0;
  is-period = s.requires.placed.is-period ∙ shift-period s.args.x (row_in s.args.pool.now s.args.a);
  a-end = s.requires.placed.a-end;
  room = s.requires.placed.room;
  few = s.requires.placed.at-most;
}

pub overflow_cast-by : goal.overflow_cast-by
overflow_cast-by c = (shifts c).bound ∴ simp ints (omega arith)

pub loop-t-init : goal.loop-t-init
loop-t-init c = λ a e s. shifted_none s

-- ---- a turn
turn : (l : At-loop-t) → let s = (goal.at.At-loop-t l).Start in Shifted (unary (shift (X s)) (row_in s.args.pool.now s.args.a)) s.args.at s.args.pool.now l.loop-t.pool l.loop-t.outside l.loop-t.t
turn l = l.loop-t.invariant l.args.a refl (shifts (goal.at.At-loop-t l).Start)

index : (c : In-loop-t) → let l = (goal.at.In-loop-t c).At-loop-t in let s = (goal.at.At-loop-t l).Start in
    (s.args.a.start + l.loop-t.t < length l.loop-t.pool) × ((s.args.at + l.loop-t.t < length l.loop-t.pool) × (length l.loop-t.pool ≤ pool_limit))
index c = shifted-index (shifts (goal.at.In-loop-t c).Start) (turn (goal.at.In-loop-t c).At-loop-t) c.loop-t-test.true

-- the cell that a turn reads
abbrev cell : After-raised-arg-1 → ℤ
cell c = get_or c.loop-t.pool (c.args.a.start + c.loop-t.t) (pos 0)

cell-fits : (c : After-raised-arg-1) → SFits w32 (cell c)
cell-fits c = sfits_of c.raised-arg-1.given

-- the number as it is handed on
by-is : (s : Start) → to_z w32 (of_z w32 (X s)) ≡ X s
by-is s = to_z-of_z (overflow_cast-by s)

pub raised-cell-requires : goal.raised-cell-requires
raised-cell-requires c =
    let l = (goal.at.raised-cell-requires c).At-loop-t in
    record { within = rw (to_z-of_z (cell-fits c)) (shifted-bound (shifts (goal.at.At-loop-t l).Start) (turn l) c.loop-t-test.true); within_2 = rw (by-is (goal.at.At-loop-t l).Start) (shifts (goal.at.At-loop-t l).Start).bound }

pub overflow_add-outside : goal.overflow_add-outside
overflow_add-outside c =
    let i = (goal.at.overflow_add-outside c).In-loop-t in
    let h = index i in
    omega (arith, (turn (goal.at.In-loop-t i).At-loop-t).counted)

-- the cell that a turn writes
abbrev written : After-raised-cell → ℤ
written c = to_z w32 (of_z w32 c.raised-cell.result)

written_is : (c : After-raised-cell) → label_of (written c) ≡ raise (X (goal.at.After-raised-cell c).Start) (label_of (cell (goal.at.After-raised-cell c).After-raised-arg-1))
written_is c =
    let s = (goal.at.After-raised-cell c).Start in
    ap label_of (to_z-of_z {w = w32} {z = c.raised-cell.result} (sfits_of c.raised-cell.type_inv))
    ∙ c.raised-cell.ensures
    ∙ ap (λ (y : ℤ). raise y (label_of (to_z w32 (of_z w32 (cell (goal.at.After-raised-cell c).After-raised-arg-1))))) (by-is s)
    ∙ ap (λ (y : ℤ). raise (X s) (label_of y)) (to_z-of_z (cell-fits (goal.at.After-raised-cell c).After-raised-arg-1))

counts : (c : Joined-is_outside) → Counts (written (goal.at.Joined-is_outside c).After-raised-cell) c.loop-t.outside c.if-is_outside.outside
counts c =
    let e = sym c.is_outside.ensures in
    elim c.if-is_outside.branch [ then-is_outside w ↦ inl (not-true _ (e ∙ w.if-is_outside.true), w.outside-is) | else-is_outside w ↦ inr (not-false _ (e ∙ w.if-is_outside.false), w.outside-is) ]

pub loop-t-preserved : goal.loop-t-preserved
loop-t-preserved c = λ a e s.
    let z = (goal.at.loop-t-preserved c).After-raised-cell in
    let i = (goal.at.After-raised-cell z).In-loop-t in
    let l = (goal.at.In-loop-t i).At-loop-t in
    let read = ap (λ (n : ℕ). raise (X (goal.at.At-loop-t l).Start) (label_of (get_or l.loop-t.pool (n + l.loop-t.t) (pos 0)))) (sym e) in
    shifted-more s (l.loop-t.invariant a e s) i.loop-t-test.true (written z) _ (written_is z ∙ read) (counts c)

-- what the loop ensures, with the number of the contract
as-filled : (s : Start) (new : List ℤ) (r : Result ⊤ Refusal) → Fills (unary (shift (X s)) (row_in s.args.pool.now s.args.a)) s.args.at s.args.period s.args.pool.now new r
    → Fills (unary (shift s.args.x) (row_in s.args.pool.now s.args.a)) s.args.at s.args.period s.args.pool.now new r
as-filled s new r h = rw (to_z-of_z s.ranges.x) at h

pub returns-then-outside-gt0 : goal.returns-then-outside-gt0
returns-then-outside-gt0 c =
    let l = (goal.at.returns-then-outside-gt0 c).At-loop-t in
    as-filled (goal.at.At-loop-t l).Start _ _ (shifted-out (shifts (goal.at.At-loop-t l).Start) (turn l) c.loop-t-test.false c.if-outside-gt0.true)

pub returns-else-outside-gt0 : goal.returns-else-outside-gt0
returns-else-outside-gt0 c =
    let l = (goal.at.returns-else-outside-gt0 c).At-loop-t in
    as-filled (goal.at.At-loop-t l).Start _ _ (shifted-done (shifts (goal.at.At-loop-t l).Start) (turn l) c.loop-t-test.false c.if-outside-gt0.false)

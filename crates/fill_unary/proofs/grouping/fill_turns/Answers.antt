-- `fill_unary::grouping::fill_turns` meets its contract: each turn of the loop writes the cells of one turn of the operand, and the working row is whole turns.
-- Assumes nothing.
use Rattle.calendar.specs.declared.Refusal.{Refusal}
use Rattle.std.specs.Prelude.{Result, ⊤}
use borrow.Author.Rules.{sfits_of}
use borrow.Author.Tests.{not-true, not-false}
use mathlib.Core.Path.{◌≡◌, refl, sym, ◌∙◌, ap, subst}
use mathlib.Core.Bool.{true, false}
use mathlib.Core.List.{List}
use Prim.Native.Nat.{◌+◌, ◌-◌, ◌≤◌, ◌<◌}
use native.Mathlib.Omega.{arith}
use lib.IntN.{ℤ, pos, ◌+ℤ◌}
use lib.ListN.{length}
use mir.Facts.{to_z-of_z}
use mir.Syntax.{w64}
use mir.Val.{SFits, to_z, of_z}
use Rattle.integers.proofs.Linear.{ints, ◌∴◌}
use Rattle.integers.proofs.Machine.{plain}
use Rattle.calendar.specs.Limits.{in_range, pool_limit}
use Rattle.calendar.specs.Sound.{sound}
use Rattle.cursors.specs.Found.{Near}
use Rattle.kinds.specs.declared.Kind.TheVariants.{Group}
use Rattle.kinds.specs.Operations.{operation_of}
use Rattle.kinds.specs.Stands.{row_in}
use Rattle.fill_shared.proofs.Cells.{lent_is}
use Rattle.fill_shared.proofs.Points.{is-near}
use Rattle.fill_shared.specs.Placed.{Fills}
use Rattle.fill_shared.proofs.Filling.{Lent, Filling, lent_of, row_of, first_one, fills_one, filling-length, filling-below}
use Rattle.fill_shared.proofs.Cursors.{first_cell, cell-bounds, cell-next}
use Rattle.fill_unary.proofs.Lent.{lent_from, lent-from}
use Rattle.fill_unary.proofs.Ends.{labelled-done}
use Rattle.fill_unary.proofs.Turned.{has-turn, turn_small, turn-outside, turned}
use Rattle.fill_unary.proofs.grouping.fill_turns.Goals as goal
use Rattle.fill_unary.proofs.grouping.fill_turns.Goals.{After-fill_turn-known, After-in_range, After-struct_told-1, At-loop-t, In-loop-t, Start}

abbrev Begun : Type 0
Begun = After-struct_told-1

abbrev At-loop : Type 0
At-loop = At-loop-t

abbrev In-loop : Type 0
In-loop = In-loop-t

abbrev entry : Begun → Start
entry c = (goal.at.After-struct_told-1 c).Start

pub end_of-end-requires : goal.end_of-end-requires
end_of-end-requires c = record { pos_bound = c.requires.placed.a-period; a_bound = c.requires.placed.a-end }

-- ---- the row that is lent
abbrev lent : Begun → Lent
lent c = lent_from (entry c).args.a.start c.end_of-end.result (to_z w64 (of_z w64 (entry c).args.a.distance))

lent-as : (c : Begun) → lent_of (entry c).args.a c.end_of-end.result ≡ lent c
lent-as c = lent-from (entry c).args.a _ (entry c).requires.placed.a-period c.end_of-end.ensures

a-is : (c : Begun) → let s = entry c in row_of (lent_of s.args.a c.end_of-end.result) s.args.pool.now ≡ row_in s.args.pool.now s.args.a
a-is c = lent_is (entry c).args.a _ _ c.end_of-end.ensures (sfits_of c.struct_told-1.given.1.0.1) (sfits_of c.struct_told-1.given.1.1.0.1)

first : (c : Begun) → let s = entry c in Filling (Group (to_z w64 (of_z w64 s.args.x))) (lent c) (lent c) s.args.at s.args.period s.args.pool.now s.args.pool.now false 0
first c =
    let s = entry c in
    subst (λ (l : Lent). Filling (Group (to_z w64 (of_z w64 s.args.x))) l l s.args.at s.args.period s.args.pool.now s.args.pool.now false 0) (lent-as c)
    (first_one _ _ (ap Group (to_z-of_z s.ranges.x)) s.args.a s.args.b _ _ _ _ _ c.end_of-end.ensures (a-is c) refl s.requires.fillable s.requires.placed)

-- what the loop ensures, over the operand
as-filled : (c : Begun) (new : List ℤ) (r : Result ⊤ Refusal) → let s = entry c in
    Fills (operation_of (Group (to_z w64 (of_z w64 s.args.x))) (row_of (lent c) s.args.pool.now) (row_of (lent c) s.args.pool.now)) s.args.at s.args.period s.args.pool.now new r
    → Fills (operation_of (Group s.args.x) (row_in s.args.pool.now s.args.a) (row_in s.args.pool.now s.args.b)) s.args.at s.args.period s.args.pool.now new r
as-filled c new r h =
    let s = entry c in
    fills_one (Group (to_z w64 (of_z w64 s.args.x))) (Group s.args.x) (ap Group (to_z-of_z s.ranges.x)) s.args.a s.args.b s.args.span s.args.at s.args.period _ _ c.end_of-end.ensures (a-is c) refl new r
    (subst (λ (l : Lent). Fills (operation_of (Group (to_z w64 (of_z w64 s.args.x))) (row_of l s.args.pool.now) (row_of l s.args.pool.now)) s.args.at s.args.period s.args.pool.now new r) (sym (lent-as c)) h)

-- ---- a turn
pub overflow_sub-count : goal.overflow_sub-count
overflow_sub-count c = omega (arith, c.end_of-end.ensures)

pub loop-t-init : goal.loop-t-init
loop-t-init c =
    let h = first c in (
      (_, h),
      first_cell (lent c) _ h.lends.is-fillable.sounds.0 (omega (arith, h.lends.a-end, h.lends.room)),
      record { numbers = λ j p q. absurd (p ∴ q ∴ simp ints (omega arith)); within = refl },
    )

-- there is room for the turn
room : (c : In-loop) → let l = (goal.at.In-loop-t c).At-loop-t in l.loop-t.t + ((lent (goal.at.At-loop-t l).After-struct_told-1).end - (lent (goal.at.At-loop-t l).After-struct_told-1).start) ≤ (entry (goal.at.At-loop-t l).After-struct_told-1).args.period
room c = let l = (goal.at.In-loop-t c).At-loop-t in has-turn _ (lent (goal.at.At-loop-t l).After-struct_told-1) _ _ _ _ _ _ _ l.loop-t.invariant.0.1 l.loop-t.invariant.1 c.loop-t-test.true

index : (c : In-loop) → let l = (goal.at.In-loop-t c).At-loop-t in let a = lent (goal.at.At-loop-t l).After-struct_told-1 in let s = entry (goal.at.At-loop-t l).After-struct_told-1 in
    (a.start + (a.end - a.start) ≤ s.args.at + l.loop-t.t) × (s.args.at + l.loop-t.t + (a.end - a.start) ≤ length l.loop-t.pool) × (length l.loop-t.pool ≤ pool_limit)
index c =
    let h = c.loop-t.invariant.0.1 in
    let e = filling-length _ _ _ _ _ _ _ _ _ h in
    (omega (arith, h.lends.a-start, h.lends.a-end), omega (arith, room c, h.lends.room), omega (arith, h.lends.few))

near : (c : In-loop) → Near (pos c.loop-t.t)
near c = is-near (pos c.loop-t.t) (simp ints (omega arith)) (filling-below _ _ _ _ _ _ _ _ _ c.loop-t.invariant.0.1 c.loop-t-test.true ∴ simp ints (omega arith))

sound-of : (l : At-loop) → sound (row_of (lent (goal.at.At-loop-t l).After-struct_told-1) (entry (goal.at.At-loop-t l).After-struct_told-1).args.pool.now) ≡ true
sound-of l = l.loop-t.invariant.0.1.lends.is-fillable.sounds.0

end-in : (l : At-loop) → (lent (goal.at.At-loop-t l).After-struct_told-1).end ≤ length (entry (goal.at.At-loop-t l).After-struct_told-1).args.pool.now
end-in l = let h = l.loop-t.invariant.0.1 in omega (arith, h.lends.a-end, h.lends.room)

-- a turn has a cell
some-cell : (c : In-loop) → (lent (goal.at.In-loop-t c).After-struct_told-1).start < (lent (goal.at.In-loop-t c).After-struct_told-1).end
some-cell c = c.loop-t.invariant.1.high

pub overflow_add-at : goal.overflow_add-at
overflow_add-at c = let h = index c in omega (arith, h.1, h.2)

pub fill_turn-known-requires : goal.fill_turn-known-requires
fill_turn-known-requires c =
    let i = (goal.at.fill_turn-known-requires c).In-loop-t in
    let l = (goal.at.In-loop-t i).At-loop-t in
    let h = l.loop-t.invariant.0.1 in
    record { pos_bound = h.lends.is-fillable.numbers; knows = l.loop-t.invariant.2; count_bound = index i; small = turn_small _ (lent (goal.at.At-loop-t l).After-struct_told-1) _ _ _ _ _ _ _ h l.loop-t.invariant.1 (room i) }

range-is : (c : After-in_range) → c.in_range.result ≡ in_range c.fill_turn-known.result.number
range-is c =
    let n : SFits w64 c.fill_turn-known.result.number = sfits_of c.struct_told-in-loop-t-1.given.0.1 in
    simp plain at c.in_range.ensures

pub shape_of-pool-then-not-in_range : goal.shape_of-pool-then-not-in_range
shape_of-pool-then-not-in_range c =
    let f = (goal.at.shape_of-pool-then-not-in_range c).After-fill_turn-known in
    f.fill_turn-known.ensures.length ∙ filling-length _ _ _ _ _ _ _ _ _ f.loop-t.invariant.0.1

pub returns-then-not-in_range : goal.returns-then-not-in_range
returns-then-not-in_range c =
    let f = (goal.at.returns-then-not-in_range c).After-fill_turn-known in
    let i = (goal.at.After-fill_turn-known f).In-loop-t in
    let l = (goal.at.In-loop-t i).At-loop-t in
    let r = sym (range-is (goal.at.returns-then-not-in_range c).After-in_range) ∙ not-true _ c.if-not-in_range.true-raw in
    let o = f.fill_turn-known.ensures.outside r in
    as-filled (goal.at.At-loop-t l).After-struct_told-1 _ _ (turn-outside _ (lent (goal.at.At-loop-t l).After-struct_told-1) _ _ _ _ _ _ _ l.loop-t.invariant.0.1 l.loop-t.invariant.1 (room i) o.0 o.1 _ o.2 r _ o.3)

-- ---- the next turn
more-in : (c : In-loop) → SFits w64 (to_z w64 c.loop-t.rise-bits +ℤ (lent (goal.at.In-loop-t c).After-struct_told-1).distance)
more-in c = let l = (goal.at.In-loop-t c).At-loop-t in (cell-bounds (lent (goal.at.At-loop-t l).After-struct_told-1) _ (sound-of l) (end-in l) _ _ _ l.loop-t.invariant.1 (near c)).more-fits

pub overflow_add-rise : goal.overflow_add-rise
overflow_add-rise c = more-in (goal.at.overflow_add-rise c).In-loop-t

pub overflow_add-t : goal.overflow_add-t
overflow_add-t c = let i = (goal.at.overflow_add-t c).In-loop-t in let h = index i in omega (arith, h.1, h.2)

pub loop-t-smaller : goal.loop-t-smaller
loop-t-smaller c = let i = (goal.at.loop-t-smaller c).In-loop-t in omega (arith, i.loop-t-test.true, some-cell i)

pub loop-t-preserved : goal.loop-t-preserved
loop-t-preserved c =
    let f = (goal.at.loop-t-preserved c).After-fill_turn-known in
    let i = (goal.at.After-fill_turn-known f).In-loop-t in
    let l = (goal.at.In-loop-t i).At-loop-t in
    let g = f.fill_turn-known.ensures.inside (sym (range-is (goal.at.loop-t-preserved c).After-in_range) ∙ not-false _ c.if-not-in_range.false-raw) in (
      turned _ (lent (goal.at.At-loop-t l).After-struct_told-1) _ _ _ _ _ _ _ l.loop-t.invariant.0.1 l.loop-t.invariant.1 (room i) _ g.1,
      rw (to_z-of_z (more-in i)) (cell-next (lent (goal.at.At-loop-t l).After-struct_told-1) _ (sound-of l) (end-in l) _ _ _ l.loop-t.invariant.1),
      g.0,
    )

-- ---- the end
pub shape_of-pool : goal.shape_of-pool
shape_of-pool c = filling-length _ _ _ _ _ _ _ _ _ c.loop-t.invariant.0.1

pub returns : goal.returns
returns c =
    let l = (goal.at.returns c).At-loop-t in
    as-filled (goal.at.At-loop-t l).After-struct_told-1 _ _ (labelled-done _ refl _ _ _ _ _ _ _ _ l.loop-t.invariant.0.1 c.loop-t-test.false)

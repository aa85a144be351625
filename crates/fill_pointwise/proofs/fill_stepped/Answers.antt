-- `fill_pointwise::fill_stepped` meets its contract: each turn of the loop writes the cell of one instant.
-- Assumes nothing.
use Rattle.calendar.specs.declared.Refusal.{Refusal}
use Rattle.std.specs.Prelude.{Result, ⊤}
use borrow.Author.Rules.{rules, sfits_of}
use borrow.Author.Tests.{not-true, not-false}
use mathlib.Core.Path.{◌≡◌, refl, sym, ◌∙◌}
use mathlib.Core.Bool.{true, false}
use mathlib.Core.List.{List}
use Prim.Native.Nat.{◌+◌}
use native.Mathlib.Omega.{arith}
use lib.IntN.{ℤ, pos}
use mir.Facts.{to_z-of_z}
use mir.Syntax.{w64}
use Rattle.integers.proofs.Linear.{ints}
use Rattle.calendar.specs.Compute.{result}
use Rattle.calendar.specs.Sound.{sound}
use Rattle.fill_pointwise.proofs.Labels.{sound-both}
use Rattle.cursors.specs.Found.{found}
use Rattle.kinds.specs.Operations.{operation_of}
use Rattle.kinds.specs.Stands.{row_in}
use Rattle.fill_shared.proofs.Cells.{lent_is}
use Rattle.fill_shared.specs.Placed.{Fills}
use Rattle.fill_shared.proofs.Filling.{Lent, Filling, lent_of, row_of, first_two, fills_two, filling-length, filling-index, filling-more, filling-out, filling-done}
use Rattle.fill_pointwise.specs.Decided.{kind_of}
use Rattle.fill_pointwise.specs.Scanning.{Scans}
use Rattle.fill_shared.proofs.Steps.{step-asks, step-gave}
use Rattle.fill_pointwise.proofs.fill_stepped.Goals as goal
use Rattle.fill_pointwise.proofs.fill_stepped.Goals.{After-last_before-last, After-step-stepped, After-store, After-struct_told-4-1, At-loop-t, Else-not-store, In-loop-t, Start}

-- ---- the rows that are lent
abbrev Told : Type 0
Told = After-struct_told-4-1

abbrev entry : Told → Start
entry c = (goal.at.After-struct_told-4-1 c).Start

abbrev a-lent : Told → Lent
a-lent c = lent_of (entry c).args.a c.end_of-a_end.result

abbrev b-lent : Told → Lent
b-lent c = lent_of (entry c).args.b c.end_of-b_end.result

a-is : (c : Told) → let s = entry c in row_of (a-lent c) s.args.pool.now ≡ row_in s.args.pool.now s.args.a
a-is c = lent_is (entry c).args.a _ _ c.end_of-a_end.ensures (search rules) (search rules)

b-is : (c : Told) → let s = entry c in row_of (b-lent c) s.args.pool.now ≡ row_in s.args.pool.now s.args.b
b-is c = lent_is (entry c).args.b _ _ c.end_of-b_end.ensures (search rules) (search rules)

first : (c : Told) → let s = entry c in Filling (kind_of s.args.by) (a-lent c) (b-lent c) s.args.at s.args.period s.args.pool.now s.args.pool.now false 0
first c =
    let s = entry c in
    first_two _ _ refl s.args.a s.args.b _ _ _ _ _ c.end_of-a_end.ensures (a-is c) _ c.end_of-b_end.ensures (b-is c) s.requires.fillable s.requires.placed

b-sound : (c : Told) → sound (row_of (b-lent c) (entry c).args.pool.now) ≡ true
b-sound c = (sound-both (entry c).args.by _ _ (first c).lends.is-fillable.sounds).1

-- what the loop ensures, over the operands
as-filled : (c : Told) (new : List ℤ) (r : Result ⊤ Refusal) → let s = entry c in
    Fills (operation_of (kind_of s.args.by) (row_of (a-lent c) s.args.pool.now) (row_of (b-lent c) s.args.pool.now)) s.args.at s.args.period s.args.pool.now new r
    → Fills (operation_of (kind_of s.args.by) (row_in s.args.pool.now s.args.a) (row_in s.args.pool.now s.args.b)) s.args.at s.args.period s.args.pool.now new r
as-filled c new r h =
    let s = entry c in
    fills_two (kind_of s.args.by) (kind_of s.args.by) refl s.args.a s.args.b s.args.span s.args.at s.args.period _ _ c.end_of-a_end.ensures (a-is c) _ c.end_of-b_end.ensures (b-is c) new r h

pub cursor_at-d-requires : goal.cursor_at-d-requires
cursor_at-d-requires c = record { sound = b-sound (goal.at.cursor_at-d-requires c).After-struct_told-4-1; near = simp ints (omega arith) }

pub last_before-last-requires : goal.last_before-last-requires
last_before-last-requires c = b-sound (goal.at.last_before-last-requires c).After-struct_told-4-1

abbrev Begun : Type 0
Begun = After-last_before-last

abbrev told : Begun → Told
told c = (goal.at.After-last_before-last c).After-struct_told-4-1

pub loop-t-init : goal.loop-t-init
loop-t-init c =
    (first (told c), record { low = simp ints (omega arith); high = simp ints (omega arith); cursors = (c.cursor_at-c.ensures, c.cursor_at-d.ensures); keeps = to_z-of_z {w = w64} (sfits_of c.last_before-last.type_inv) ∙ c.last_before-last.ensures })

-- ---- a turn
pub step-stepped-requires : goal.step-stepped-requires
step-stepped-requires c =
    let i = (goal.at.step-stepped-requires c).In-loop-t in
    let l = (goal.at.In-loop-t i).At-loop-t in
    let h = step-asks _ _ _ _ _ _ _ _ _ l.loop-t.invariant.0 i.loop-t-test.true (λ x y t. Scans x y t l.loop-t.s) l.loop-t.invariant.1 in
    record { fillable = h.0; scans = h.1.0; t_bound = h.1.1 }

-- the label of the instant, and the next state
stepped : (c : After-step-stepped) →
    let l = (goal.at.After-step-stepped c).At-loop-t in
    let d = told (goal.at.At-loop-t l).After-last_before-last in
    let s = entry d in
    let a = row_of (a-lent d) s.args.pool.now in
    let b = row_of (b-lent d) s.args.pool.now in
    (found c.step-stepped.result.label ≡ result (operation_of (kind_of s.args.by) a b) (pos l.loop-t.t)) × Scans a b (pos (l.loop-t.t + 1)) c.step-stepped.result.next
stepped c =
    let i = (goal.at.After-step-stepped c).In-loop-t in
    let e = c.step-stepped.ensures in
    step-gave _ _ _ _ _ _ _ _ _ i.loop-t.invariant.0 i.loop-t-test.true _ (λ x y t. Scans x y t c.step-stepped.result.next) (e.label, e.next)

pub store-requires : goal.store-requires
store-requires c = (filling-index _ _ _ _ _ _ _ _ _ c.loop-t.invariant.0 c.loop-t-test.true).0

pub shape_of-pool-then-not-store : goal.shape_of-pool-then-not-store
shape_of-pool-then-not-store c = c.store.ensures.length ∙ filling-length _ _ _ _ _ _ _ _ _ c.loop-t.invariant.0

pub returns-then-not-store : goal.returns-then-not-store
returns-then-not-store c =
    let n = (goal.at.returns-then-not-store c).After-store in
    let x = (goal.at.After-store n).After-step-stepped in
    let i = (goal.at.After-step-stepped x).In-loop-t in
    as-filled (told (goal.at.At-loop-t (goal.at.In-loop-t i).At-loop-t).After-last_before-last) _ _
    (filling-out _ _ _ _ _ _ _ _ _ i.loop-t.invariant.0 i.loop-t-test.true _ (stepped x).0 _ (n.store.ensures.kept (not-true _ c.if-not-store.true-raw)) (sym n.store.ensures.within ∙ not-true _ c.if-not-store.true-raw))

pub loop-t-preserved : goal.loop-t-preserved
loop-t-preserved c =
    let e = (goal.at.loop-t-preserved c).Else-not-store in
    let n = (goal.at.Else-not-store e).After-store in
    let x = (goal.at.After-store n).After-step-stepped in
    let i = (goal.at.After-step-stepped x).In-loop-t in
    let r = not-false _ e.if-not-store.false-raw in
    (filling-more _ _ _ _ _ _ _ _ _ i.loop-t.invariant.0 i.loop-t-test.true _ (stepped x).0 _ _ (sym n.store.ensures.within ∙ r) (n.store.ensures.cell r) c.any-labelled.ensures, (stepped x).1)

pub shape_of-pool : goal.shape_of-pool
shape_of-pool c = filling-length _ _ _ _ _ _ _ _ _ c.loop-t.invariant.0

pub returns : goal.returns
returns c =
    let l = (goal.at.returns c).At-loop-t in
    as-filled (told (goal.at.At-loop-t l).After-last_before-last) _ _ (rw c.outcome.ensures (filling-done _ _ _ _ _ _ _ _ _ l.loop-t.invariant.0 c.loop-t-test.false))

-- `match_pointwise::match_pointwise` meets its contract: each turn of the loop compares the label of one instant.
-- Assumes nothing.
use Rattle.std.specs.Prelude.{ℤ}
use borrow.Author.Rules.{rules, sfits_of}
use borrow.Author.Tests.{not-true, not-false}
use mathlib.Core.Path.{◌≡◌, sym, ◌∙◌, ap, subst}
use mathlib.Core.Bool.{true}
use Prim.Native.Nat.{◌+◌}
use native.Mathlib.Omega.{arith}
use lib.IntN.{pos, negsuc, ◌+ℤ◌}
use lib.Signed.{◌<ℤ◌}
use mir.Facts.{to_z-of_z}
use mir.Syntax.{w64}
use mir.Val.{to_z}
use Rattle.integers.proofs.Linear.{ints}
use Rattle.calendar.specs.Meaning.{Row}
use Rattle.calendar.specs.Limits.{pool_limit}
use Rattle.calendar.specs.Compute.{result, anchored}
use Rattle.calendar.specs.Sound.{sound}
use Rattle.cursors.specs.Found.{found}
use Rattle.cursors.specs.Cursor.{cursor_at}
use Rattle.kinds.specs.Operations.{operation_of}
use Rattle.kinds.specs.Stands.{row_in}
use Rattle.fill_shared.specs.Fillable.{Fillable}
use Rattle.fill_shared.proofs.Cells.{same_rows}
use Rattle.fill_pointwise.specs.Decided.{kind_of}
use Rattle.fill_pointwise.specs.Scanning.{Scans}
use Rattle.fill_pointwise.proofs.Labels.{sound-both}
use Rattle.match_shared.proofs.Lent.{lent_row, lent_row_lem}
use Rattle.match_shared.proofs.Claims.{claim-positive, claim-inside, claim-instant, claim-below, claim-outside, claim-matched}
use Rattle.match_pointwise.proofs.match_pointwise.Goals as goal
use Rattle.match_pointwise.proofs.match_pointwise.Goals.{After-begin-seen, After-compared-seen, After-cursor_at-2, After-in_limits, After-last_before, After-step-stepped, After-struct_told-2-1, After-struct_told-4-1, At-loop-t, Else-not-in_limits, In-loop-t, Start}

-- ---- the rows that are lent
abbrev Told-a : Type 0
Told-a = After-struct_told-2-1

abbrev Told-b : Type 0
Told-b = After-struct_told-4-1

abbrev entry : Told-a → Start
entry c = (goal.at.After-struct_told-2-1 c).Start

a-is : (c : Told-a) → let s = entry c in lent_row s.args.a c.cells_of-a_cells.result.now ≡ row_in s.args.pool.now s.args.a
a-is c = lent_row_lem (entry c).args.a _ _ (search rules) (search rules) c.cells_of-a_cells.ensures

b-is : (c : Told-b) → let d = (goal.at.After-struct_told-4-1 c).After-struct_told-2-1 in let s = entry d in lent_row s.args.b d.cells_of-b_cells.result.now ≡ row_in s.args.pool.now s.args.b
b-is c =
    let d = (goal.at.After-struct_told-4-1 c).After-struct_told-2-1 in
    lent_row_lem (entry d).args.b _ _ (search rules) (search rules) d.cells_of-b_cells.ensures

sounds : (s : Start) → (sound (row_in s.args.pool.now s.args.a) ≡ true) × (sound (row_in s.args.pool.now s.args.b) ≡ true)
sounds s = sound-both s.args.by _ _ s.requires.fillable.sounds

-- ---- the state before the instant 0
b-sound : (c : Told-b) → let d = (goal.at.After-struct_told-4-1 c).After-struct_told-2-1 in let s = entry d in sound (lent_row s.args.b d.cells_of-b_cells.result.now) ≡ true
b-sound c = subst (λ (x : Row). sound x ≡ true) (sym (b-is c)) (sounds (entry (goal.at.After-struct_told-4-1 c).After-struct_told-2-1)).1

pub cursor_at-requires-2 : goal.cursor_at-requires-2
cursor_at-requires-2 c = record { sound = b-sound c; near = simp ints (omega arith) }

pub last_before-requires : goal.last_before-requires
last_before-requires c = b-sound (goal.at.last_before-requires c).After-struct_told-4-1

abbrev Begun : Type 0
Begun = After-begin-seen

abbrev told-b : Begun → Told-b
told-b c = (goal.at.After-begin-seen c).After-struct_told-4-1

abbrev told-a : Begun → Told-a
told-a c = (goal.at.After-struct_told-4-1 (told-b c)).After-struct_told-2-1

abbrev start : Begun → Start
start c = entry (told-a c)

pub loop-t-init : goal.loop-t-init
loop-t-init c = (
  record {
    low = simp ints (omega arith);
    high = simp ints (omega arith);
    cursors = (
      subst (λ (x : Row). c.cursor_at.result ≡ cursor_at x (pos 0)) (a-is (told-a c)) c.cursor_at.ensures,
      subst (λ (x : Row). c.cursor_at-2.result ≡ cursor_at x (pos 0)) (b-is (told-b c)) c.cursor_at-2.ensures,
    );
    keeps = to_z-of_z {w = w64} (sfits_of c.last_before.type_inv) ∙ c.last_before.ensures ∙ ap (λ (x : Row). anchored x (negsuc 0)) (b-is (told-b c));
  },
  c.begin-seen.ensures _ _ (claim-positive (start c).requires.claimed),
)

-- ---- a turn
pub step-stepped-requires : goal.step-stepped-requires
step-stepped-requires c =
    let i = (goal.at.step-stepped-requires c).In-loop-t in
    let l = (goal.at.In-loop-t i).At-loop-t in
    let s = start (goal.at.At-loop-t l).After-begin-seen in
    let h = same_rows (λ x y. Fillable (kind_of s.args.by) x y × (Scans x y (to_z w64 l.loop-t.t) l.loop-t.s × (to_z w64 l.loop-t.t <ℤ pos pool_limit)))
    (sym (a-is (told-a (goal.at.At-loop-t l).After-begin-seen))) (sym (b-is (told-b (goal.at.At-loop-t l).After-begin-seen)))
    (rw (claim-instant s.requires.claimed i.loop-t-test.true) (s.requires.fillable, (l.loop-t.invariant.0, claim-below s.requires.claimed i.loop-t-test.true))) in
    record { fillable = h.0; scans = h.1.0; t_bound = h.1.1 }

-- the label of the instant, and the next state
stepped : (c : After-step-stepped) →
    let l = (goal.at.After-step-stepped c).At-loop-t in
    let s = start (goal.at.At-loop-t l).After-begin-seen in
    let a = row_in s.args.pool.now s.args.a in
    let b = row_in s.args.pool.now s.args.b in
    (found c.step-stepped.result.label ≡ result (operation_of (kind_of s.args.by) a b) (pos l.loop-t.t)) × Scans a b (pos (l.loop-t.t + 1)) c.step-stepped.result.next
stepped c =
    let i = (goal.at.After-step-stepped c).In-loop-t in
    let l = (goal.at.In-loop-t i).At-loop-t in
    let s = start (goal.at.At-loop-t l).After-begin-seen in
    same_rows (λ x y. (found c.step-stepped.result.label ≡ result (operation_of (kind_of s.args.by) x y) (pos l.loop-t.t)) × Scans x y (pos l.loop-t.t +ℤ pos 1) c.step-stepped.result.next)
    (a-is (told-a (goal.at.At-loop-t l).After-begin-seen)) (b-is (told-b (goal.at.At-loop-t l).After-begin-seen))
    (rw (claim-instant s.requires.claimed i.loop-t-test.true) at c.step-stepped.ensures.label, rw (claim-instant s.requires.claimed i.loop-t-test.true) at c.step-stepped.ensures.next)

pub returns-then-not-in_limits : goal.returns-then-not-in_limits
returns-then-not-in_limits c =
    let n = (goal.at.returns-then-not-in_limits c).After-in_limits in
    let x = (goal.at.After-in_limits n).After-step-stepped in
    let i = (goal.at.After-step-stepped x).In-loop-t in
    claim-outside (start (goal.at.In-loop-t i).After-begin-seen).requires.claimed i.loop-t-test.true _ (stepped x).0 (sym n.in_limits.ensures ∙ not-true _ c.if-not-in_limits.true-raw)

pub loop-t-preserved : goal.loop-t-preserved
loop-t-preserved c =
    let m = (goal.at.loop-t-preserved c).After-compared-seen in
    let e = (goal.at.After-compared-seen m).Else-not-in_limits in
    let n = (goal.at.Else-not-in_limits e).After-in_limits in
    let x = (goal.at.After-in_limits n).After-step-stepped in
    let i = (goal.at.After-step-stepped x).In-loop-t in
    let l = (goal.at.In-loop-t i).At-loop-t in
    let h = (start (goal.at.At-loop-t l).After-begin-seen).requires.claimed in
    ((stepped x).1, m.compared-seen.ensures _ _ l.loop-t.invariant.1 (claim-inside h i.loop-t-test.true) (stepped x).0 (sym n.in_limits.ensures ∙ not-false _ e.if-not-in_limits.false-raw))

pub returns : goal.returns
returns c =
    let l = (goal.at.returns c).At-loop-t in
    claim-matched (start (goal.at.At-loop-t l).After-begin-seen).requires.claimed l.loop-t.invariant.1 c.loop-t-test.false _ c.outcome.ensures

-- `match_unary::match_unary` meets its contract: each turn of the loop compares the label of one instant.
-- Assumes nothing.
use Rattle.calendar.specs.declared.Refusal.{Refusal}
use Rattle.std.specs.Prelude.{Result, Bool}
use borrow.Author.Rules.{rules, sfits_of}
use borrow.Author.Tests.{not-true, not-false}
use mathlib.Core.Path.{◌≡◌, sym, ◌∙◌, ap, subst}
use mathlib.Core.Option.{map}
use mathlib.Core.Bool.{true}
use Prim.Native.Nat.{◌+◌}
use native.Mathlib.Omega.{arith}
use lib.IntN.{ℤ, pos, negsuc, ◌+ℤ◌}
use lib.Signed.{◌≤ℤ◌}
use mir.Facts.{to_z-of_z}
use mir.Syntax.{w64}
use mir.Val.{to_z, of_z}
use Rattle.integers.proofs.Linear.{ints, ◌∴◌}
use Rattle.calendar.specs.Meaning.{Row, meant}
use Rattle.calendar.specs.Operation.{Operation}
use Rattle.calendar.specs.Limits.{pool_limit}
use Rattle.calendar.specs.Compute.{result, anchored}
use Rattle.calendar.specs.Sound.{sound}
use Rattle.granules.specs.Valid.{Valid}
use Rattle.granules.proofs.Sound.{sound-valid}
use Rattle.cursors.specs.Found.{found}
use Rattle.cursors.specs.Cursor.{cursor_at, Standing}
use Rattle.kinds.specs.Stands.{row_in}
use Rattle.fill_shared.specs.Fillable.{Fillable}
use Rattle.fill_shared.specs.Placed.{over}
use Rattle.fill_shared.proofs.Single.{fillable-twice, operation-over}
use Rattle.fill_shared.proofs.Points.{is-near, label_small}
use Rattle.match_shared.specs.Matching.{matched_as}
use Rattle.match_shared.specs.Claims.{Claimed}
use Rattle.match_shared.proofs.Lent.{lent_row, lent_row_lem}
use Rattle.match_shared.proofs.Claims.{claim-positive, claim-inside, claim-below, claim-outside, claim-matched}
use Rattle.match_unary.specs.Numbered.{kind_of, number_in, Counts}
use Rattle.match_unary.proofs.Single.{one-operand, sound-first, result-is, claimed-twice}
use Rattle.match_unary.proofs.Counting.{counts-label, counts-within}
use Rattle.match_unary.proofs.match_unary.Goals as goal
use Rattle.match_unary.proofs.match_unary.Goals.{After-begin-seen, After-cursor_label-own, After-cursor_next-cursor, After-first_number, After-in_limits, After-last_before-last, After-next_counted-k, After-numbered-label, After-struct_told-2-1, At-loop-t, Else-not-in_limits, In-loop-t, Start as Start-place}

-- ---- what is given, over the operand alone
abbrev Start : Type 0
Start = Start-place

abbrev row : Start → Row
row s = row_in s.args.pool.now s.args.a

abbrev operation : Start → Operation Row
operation s = over (kind_of s.args.by) s.args.pool.now s.args.a s.args.a

claimed : (s : Start) → Claimed (kind_of s.args.by) s.args.a s.args.a s.args.r s.args.span s.args.period s.args.pool.now
claimed s = claimed-twice (one-operand s.args.by) s.requires.claimed

is-sound : (s : Start) → sound (row s) ≡ true
is-sound s = sound-first s.args.by _ _ s.requires.fillable.sounds

is-valid : (s : Start) → Valid (row s)
is-valid s = sound-valid (row s) (is-sound s)

-- what the loop answers, over both rows
answered : (s : Start) (m : Result Bool Refusal) → m ≡ matched_as (operation s) (row_in s.args.pool.now s.args.r)
    → m ≡ matched_as (over (kind_of s.args.by) s.args.pool.now s.args.a s.args.b) (row_in s.args.pool.now s.args.r)
answered s m e =
    e ∙ ap (λ (o : Operation Row). matched_as o (row_in s.args.pool.now s.args.r)) (operation-over (kind_of s.args.by) (row s) (row_in s.args.pool.now s.args.b) (one-operand s.args.by))

-- the row that is lent
abbrev Told : Type 0
Told = After-struct_told-2-1

abbrev entry : Told → Start
entry c = (goal.at.After-struct_told-2-1 c).Start

abbrev lent : Told → Row
lent c = lent_row (entry c).args.a c.cells_of-cells.result.now

a-is : (c : Told) → lent c ≡ row (entry c)
a-is c = lent_row_lem (entry c).args.a _ _ (search rules) (search rules) c.cells_of-cells.ensures

lent-sound : (c : Told) → sound (lent c) ≡ true
lent-sound c = subst (λ (x : Row). sound x ≡ true) (sym (a-is c)) (is-sound (entry c))

-- ---- the state before the instant 0
pub last_before-last-requires : goal.last_before-last-requires
last_before-last-requires c = lent-sound c

pub first_number-requires : goal.first_number-requires
first_number-requires c =
    let l = (goal.at.first_number-requires c).After-last_before-last in
    let d = (goal.at.After-last_before-last l).After-struct_told-2-1 in
    let s = entry d in
    record {
      fillable = subst (λ (x : Row). Fillable (kind_of s.args.by) x x) (sym (a-is d)) (fillable-twice (kind_of s.args.by) (row s) _ (one-operand s.args.by) s.requires.fillable);
      last_value = to_z-of_z {w = w64} (sfits_of l.last_before-last.type_inv) ∙ l.last_before-last.ensures;
    }

abbrev Begun : Type 0
Begun = After-begin-seen

abbrev told : Begun → Told
told c = (goal.at.After-begin-seen c).After-struct_told-2-1

abbrev start : Begun → Start
start c = entry (told c)

pub loop-t-init : goal.loop-t-init
loop-t-init c =
    let f = (goal.at.loop-t-init c).After-first_number in
    let l = (goal.at.After-first_number f).After-last_before-last in
    let d = told c in
    let s = start c in (
      record {
        is_last = to_z-of_z {w = w64} (sfits_of l.last_before-last.type_inv) ∙ l.last_before-last.ensures ∙ ap (λ (x : Row). anchored x (negsuc 0)) (a-is d);
        is_number =
            to_z-of_z {w = w64} (sfits_of f.first_number.type_inv)
            ∙ subst (λ (x : Row). f.first_number.result ≡ number_in s.args.by x (to_z w64 (of_z w64 l.last_before-last.result))) (a-is d) f.first_number.ensures;
      },
      (
        subst (λ (x : Row). c.cursor_at-cursor.result ≡ cursor_at x (pos 0)) (a-is d) c.cursor_at-cursor.ensures,
        c.begin-seen.ensures _ _ (claim-positive (claimed s)),
      ),
    )

-- ---- a turn
abbrev In-loop : Type 0
In-loop = In-loop-t

abbrev from_start : In-loop → Start
from_start c = start (goal.at.In-loop-t c).After-begin-seen

-- the instant is one of the working row
in-time : (c : In-loop) → (pos 0 ≤ℤ pos c.loop-t.t) × (pos c.loop-t.t ≤ℤ pos pool_limit)
in-time c = (simp ints (omega arith), claim-below (claimed (from_start c)) c.loop-t-test.true ∴ simp ints (omega arith))

standing : (c : In-loop) → let d = told (goal.at.In-loop-t c).After-begin-seen in (sound (lent d) ≡ true) × Standing (lent d) c.loop-t.cursor
standing c =
    let h = in-time c in
    let l = (goal.at.In-loop-t c).At-loop-t in
    subst (λ (x : Row). (sound x ≡ true) × Standing x l.loop-t.cursor) (sym (a-is (told (goal.at.At-loop-t l).After-begin-seen)))
    (is-sound (from_start c), (pos l.loop-t.t, is-near _ h.0 h.1, l.loop-t.invariant.1.0))

pub cursor_label-own-requires : goal.cursor_label-own-requires
cursor_label-own-requires c = let x = standing (goal.at.cursor_label-own-requires c).In-loop-t in record { sound = x.0; standing = x.1 }

pub cursor_next-cursor-requires : goal.cursor_next-cursor-requires
cursor_next-cursor-requires c = let x = standing (goal.at.cursor_next-cursor-requires c).In-loop-t in record { sound = x.0; standing = x.1 }

-- the label of the instant in the operand, and the cursor of the next
abbrev in-label : After-cursor_label-own → In-loop
in-label c = (goal.at.After-cursor_label-own c).In-loop-t

own-label : (c : After-cursor_label-own) → let i = in-label c in found c.cursor_label-own.result ≡ meant (row (from_start i)) (pos i.loop-t.t)
own-label c =
    let i = in-label c in
    let l = (goal.at.In-loop-t i).At-loop-t in
    (subst (λ (x : Row). (u : ℤ) → l.loop-t.cursor ≡ cursor_at x u → found c.cursor_label-own.result ≡ meant x u) (a-is (told (goal.at.At-loop-t l).After-begin-seen)) c.cursor_label-own.ensures)
    (pos l.loop-t.t) l.loop-t.invariant.1.0

next-cursor : (c : After-cursor_next-cursor) → let i = in-label (goal.at.After-cursor_next-cursor c).After-cursor_label-own in c.cursor_next-cursor.result ≡ cursor_at (row (from_start i)) (pos (i.loop-t.t + 1))
next-cursor c =
    let l = (goal.at.In-loop-t (in-label (goal.at.After-cursor_next-cursor c).After-cursor_label-own)).At-loop-t in
    (subst (λ (x : Row). (u : ℤ) → l.loop-t.cursor ≡ cursor_at x u → c.cursor_next-cursor.result ≡ cursor_at x (u +ℤ pos 1)) (a-is (told (goal.at.At-loop-t l).After-begin-seen)) c.cursor_next-cursor.ensures)
    (pos l.loop-t.t) l.loop-t.invariant.1.0

pub next_counted-k-requires : goal.next_counted-k-requires
next_counted-k-requires c =
    let o = (goal.at.next_counted-k-requires c).After-cursor_label-own in
    let i = in-label o in
    let s = from_start i in
    let h = in-time i in
    let a = s.args.a in
    record {
      numbers = s.requires.fillable.numbers;
      within = counts-within s.args.by a.period a.distance _ (is-sound s) s.requires.fillable.numbers _ h.0 h.1 _ i.loop-t.invariant.0;
      within_2 = λ j e. label_small a.period a.distance _ (is-sound s) _ j h.0 h.1 (sym (own-label o) ∙ e);
    }

-- the last label and its number behind the instant
counted : (c : After-next_counted-k) → let i = in-label (goal.at.After-next_counted-k c).After-cursor_label-own in
    Counts (from_start i).args.by (row (from_start i)) (pos (i.loop-t.t + 1)) c.next_counted-k.result
counted c =
    let o = (goal.at.After-next_counted-k c).After-cursor_label-own in
    let i = in-label o in
    let s = from_start i in
    c.next_counted-k.ensures (row s) (pos i.loop-t.t) (is-valid s) i.loop-t.invariant.0 (own-label o)

-- the label of the instant
abbrev in-numbered : After-numbered-label → In-loop
in-numbered c = in-label (goal.at.After-numbered-label c).After-cursor_label-own

label_is : (c : After-numbered-label) → let i = in-numbered c in found c.numbered-label.result ≡ result (operation (from_start i)) (pos i.loop-t.t)
label_is c =
    let n = (goal.at.After-numbered-label c).After-next_counted-k in
    let o = (goal.at.After-next_counted-k n).After-cursor_label-own in
    let i = in-label o in
    let s = from_start i in
    let t = pos i.loop-t.t in
    c.numbered-label.ensures
    ∙ ap (λ (z : ℤ). map (λ j. z) (found o.cursor_label-own.result)) (to_z-of_z {w = w64} (search rules))
    ∙ ap (map (λ j. n.next_counted-k.result.number)) (own-label o)
    ∙ counts-label (is-valid s) t (counted n)
    ∙ sym (result-is s.args.by (row s) (row s) t)

pub returns-then-not-in_limits : goal.returns-then-not-in_limits
returns-then-not-in_limits c =
    let n = (goal.at.returns-then-not-in_limits c).After-in_limits in
    let i = in-numbered (goal.at.After-in_limits n).After-numbered-label in
    let s = from_start i in
    answered s _ (claim-outside (claimed s) i.loop-t-test.true _ (label_is (goal.at.After-in_limits n).After-numbered-label) (sym n.in_limits.ensures ∙ not-true _ c.if-not-in_limits.true-raw))

pub loop-t-preserved : goal.loop-t-preserved
loop-t-preserved c =
    let e = (goal.at.loop-t-preserved c).Else-not-in_limits in
    let n = (goal.at.Else-not-in_limits e).After-in_limits in
    let x = (goal.at.After-in_limits n).After-numbered-label in
    let i = in-numbered x in
    let s = from_start i in
    let k = (goal.at.After-numbered-label x).After-next_counted-k in (
      counted k,
      (
        next-cursor (goal.at.After-next_counted-k k).After-cursor_next-cursor,
        c.compared-seen.ensures _ _ i.loop-t.invariant.1.1 (claim-inside (claimed s) i.loop-t-test.true) (label_is x) (sym n.in_limits.ensures ∙ not-false _ e.if-not-in_limits.false-raw),
      ),
    )

pub returns : goal.returns
returns c =
    let l = (goal.at.returns c).At-loop-t in
    let s = start (goal.at.At-loop-t l).After-begin-seen in
    answered s _ (claim-matched (claimed s) l.loop-t.invariant.1.1 c.loop-t-test.false _ c.outcome.ensures)

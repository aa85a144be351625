-- `fill_stretches::fill_along` meets its contract: each turn of the loop writes the cell of one instant.
-- Assumes nothing.
use borrow.Author.Rules.{rules}
use mathlib.Core.Path.{◌≡◌, refl, sym, ◌∙◌, ap, subst}
use mathlib.Core.Logic.{⊎_elim}
use mathlib.Core.Option.{Option, none, some}
use mathlib.Core.Bool.{true}
use mathlib.Core.List.{List}
use Prim.Native.Nat.{ℕ, ◌+◌, ◌≤◌, ◌<◌}
use native.Mathlib.Omega.{arith}
use lib.IntN.{ℤ, pos, ◌+ℤ◌}
use lib.Signed.{◌≤ℤ◌}
use lib.ListN.{length, set}
use mir.Facts.{to_z-of_z}
use mir.Syntax.{w32, w64}
use mir.Val.{to_z, of_z, SFits}
use Rattle.integers.proofs.Linear.{ints}
use Rattle.integers.proofs.Machine.{plain, test-lt, test-not-lt}
use Rattle.calendar.specs.Limits.{pool_limit}
use Rattle.calendar.specs.Meaning.{Row, meant}
use Rattle.cursors.specs.Found.{found}
use Rattle.calendar.specs.Sound.{sound}
use Rattle.calendar.specs.Questions.{given}
use Rattle.cursors.specs.declared.Cursor.{Cursor}
use Rattle.cursors.specs.Cursor.{cursor_at, Standing}
use Rattle.fill_stretches.specs.Stretch.{cell_where, row_from, Room, Follows, Stretched}
use Rattle.fill_stretches.proofs.Growing.{Grown, grown-length, grown-kept, grown-more}
use Rattle.fill_stretches.proofs.fill_along.Goals as goal
use Rattle.fill_stretches.proofs.fill_along.Goals.{After-cursor-1, After-cursor_label-label, At-loop-t, In-Some, In-loop-t, Joined-label, Start as Start-place}

-- ---- what is given, as the machine has it
abbrev Start : Type 0
Start = Start-place

abbrev old : Start → List ℤ
old s = s.args.pool.now

abbrev C : Start → ℤ
C s = to_z w32 (of_z w32 s.args.cell)

abbrev H : Start → ℤ
H s = to_z w64 (of_z w64 s.args.high)

abbrev P : Start → ℤ
P s = to_z w64 (of_z w64 s.args.period)

abbrev N : Start → ℤ
N s = to_z w64 (of_z w64 s.args.distance)

abbrev row : Start → Row
row s = row_from s.args.start s.args.end (P s) (N s) (old s)

room : (s : Start) → Room s.args.start s.args.end (P s) (N s) s.args.at s.args.size (old s)
room s =
    let p = s.ranges.period in
    let d = s.ranges.distance in
    simp plain s.requires.room

follows : (s : Start) → Follows (row s) s.args.size s.args.from
follows s =
    let p = s.ranges.period in
    let d = s.ranges.distance in
    simp plain s.requires.follows

-- what the loop has reached at its end
ends : (s : Start) (t : ℕ) (cursor : Cursor) (new : List ℤ) → Stretched (C s) (H s) (row s) s.args.at s.args.size (old s) s.args.from (record { t = t; cursor = cursor }) new
    → Stretched s.args.cell s.args.high (row_from s.args.start s.args.end s.args.period s.args.distance (old s)) s.args.at s.args.size (old s) s.args.from (record { t = t; cursor = cursor }) new
ends s t cursor new x =
    let c = s.ranges.cell in
    let h = s.ranges.high in
    let p = s.ranges.period in
    let d = s.ranges.distance in
    simp plain at x

-- ---- an instant
abbrev At : Type 0
At = At-loop-t

abbrev In : Type 0
In = In-loop-t

abbrev base : At → Start
base l = (goal.at.At-loop-t l).Start

-- a pool that has grown up to t: how long it is, and that the row stands in it as it stood
module _ (s : Start) (new : List ℤ) (cursor : Cursor) (t : ℕ) (g : Grown (C s) (H s) (row s) s.args.at s.args.size s.args.from.t (old s) new cursor t) where
  same : length new ≡ length (old s)
  same = grown-length (C s) (H s) (row s) _ _ _ (old s) new cursor t g

  kept : row_from s.args.start s.args.end (P s) (N s) new ≡ row s
  kept =
      let f = room s in
      ap (given (P s) (N s)) (grown-kept (C s) (H s) (row s) _ _ _ (old s) new cursor t g s.args.start s.args.end (omega (arith, f.room)) f.starts f.ends)

  part : (s.args.start ≤ s.args.end) × (s.args.end ≤ length new) × (s.args.end ≤ pool_limit)
  part = let f = room s in let e = same in (f.starts, omega (arith, f.ends, f.room), omega (arith, f.ends, f.room, f.few))

  -- what a call is asked of the row, with the cursor of an instant
  asks : (c : Cursor) (u : ℕ) → u < s.args.size → c ≡ cursor_at (row s) (pos u)
      → let r = row_from s.args.start s.args.end (P s) (N s) new in (sound r ≡ true) × Standing r c
  asks c u m e =
      let f = room s in
      let y : u < pool_limit = omega (arith, f.room, f.few) in
      rw kept (f.is-sound, (pos u, simp ints (omega arith), e))

  -- the instant is one of the pool
  index : t < s.args.size → (s.args.at + t < length new) × (length new ≤ pool_limit)
  index m = let f = room s in let e = same in (omega (arith, f.room), omega (arith, f.few))

at_part : (l : At) → ((base l).args.start ≤ (base l).args.end) × ((base l).args.end ≤ length l.loop-t.pool) × ((base l).args.end ≤ pool_limit)
at_part l = part (base l) _ _ _ l.loop-t.invariant

pub slice_bounds-cursor_label-end : goal.slice_bounds-cursor_label-end
slice_bounds-cursor_label-end c = (at_part (goal.at.slice_bounds-cursor_label-end c).At-loop-t).1

pub cursor_label-label-requires : goal.cursor_label-label-requires
cursor_label-label-requires c =
    let i = (goal.at.cursor_label-label-requires c).In-loop-t in
    let l = (goal.at.cursor_label-label-requires c).At-loop-t in
    record { sound = (asks (base l) _ _ _ l.loop-t.invariant l.loop-t.cursor l.loop-t.t i.loop-t-test.true l.loop-t.invariant.is-cursor).0; standing = (asks (base l) _ _ _ l.loop-t.invariant l.loop-t.cursor l.loop-t.t i.loop-t-test.true l.loop-t.invariant.is-cursor).1 }

-- the label of the instant
label_is : (c : After-cursor_label-label) → let l = (goal.at.After-cursor_label-label c).At-loop-t in meant (row (base l)) (pos l.loop-t.t) ≡ found c.cursor_label-label.result
label_is c =
    let l = (goal.at.After-cursor_label-label c).At-loop-t in
    let k = kept (base l) _ _ _ l.loop-t.invariant in
    sym ((rw k at c.cursor_label-label.ensures) (pos l.loop-t.t) l.loop-t.invariant.is-cursor)

-- a label j there
abbrev Shown : Type 0
Shown = In-Some

abbrev at-shown : Shown → At
at-shown c = (goal.at.In-Some c).At-loop-t

abbrev label : Shown → ℤ
label c = c.in-Some.j

label-fits : (c : Shown) → SFits w64 (label c)
label-fits c = search rules

label-some : (c : Shown) → let l = at-shown c in meant (row (base l)) (pos l.loop-t.t) ≡ some (label c)
label-some c = label_is (goal.at.In-Some c).After-cursor_label-label ∙ ap found c.in-Some.is

pub shape_of-pool-then-high-j : goal.shape_of-pool-then-high-j
shape_of-pool-then-high-j c = let l = at-shown (goal.at.shape_of-pool-then-high-j c).In-Some in same (base l) _ _ _ l.loop-t.invariant

pub returns-then-high-j : goal.returns-then-high-j
returns-then-high-j c =
    let k = (goal.at.returns-then-high-j c).In-Some in
    let l = at-shown k in
    let g = l.loop-t.invariant in
    let f = label-fits k in
    let a = (test-lt (H (base l)) (label k)).0 (rw (to_z-of_z f) at c.if-high-j.true) in
    ends (base l) _ _ _ record { follows = record { in-room = g.in-room; cursor = g.is-cursor }; on = g.on; cells = g.cells; below = g.below; stops = λ m. (label k, label-some k, a) }

-- ---- the cell that is written
abbrev Set : Type 0
Set = Joined-label

abbrev in-of : Set → In
in-of c = (goal.at.Joined-label c).In-loop-t

abbrev at_of : Set → At
at_of c = (goal.at.In-loop-t (in-of c)).At-loop-t

-- the label of the instant, which is not above the limit, and its cell
abbrev Cells : (l : At) → ℤ → Type 0
Cells l z = (x : Option ℤ) × (meant (row (base l)) (pos l.loop-t.t) ≡ x) × ((j : ℤ) → x ≡ some j → j ≤ℤ H (base l)) × (z ≡ cell_where (C (base l)) x)

cells : (c : Set) → Cells (at_of c) (to_z w32 c.match-label.written-bits)
cells c =
    let k = (goal.at.Joined-label c).After-cursor_label-label in
    ⊎_elim
    (λ w.
    let f : SFits w64 w.in-Some.j = search rules in
    let b = (test-not-lt (H (base (at_of c))) w.in-Some.j).0 (rw (to_z-of_z f) at w.if-high-j.false) in
    (some w.in-Some.j, label_is k ∙ ap found w.in-Some.is, λ j e. (let q : w.in-Some.j ≡ j = cc in rw q at b), w.written-is))
    (λ w. (none, label_is k ∙ ap found w.in-None.is, λ j e. (let z : ◌≡◌ {A = ℕ} 0 1 = cc in absurd (omega arith)), w.written-is))
    c.match-label.branch-raw

-- one instant more
more : (c : Set) (next : Cursor) → let l = at_of c in let s = base l in next ≡ cursor_at (row s) (pos l.loop-t.t +ℤ pos 1)
    → Grown (C s) (H s) (row s) s.args.at s.args.size s.args.from.t (old s) (set l.loop-t.pool (s.args.at + l.loop-t.t) (to_z w32 c.match-label.written-bits)) next (l.loop-t.t + 1)
more c next e =
    let l = at_of c in
    let s = base l in
    let x = cells c in
    grown-more (C s) (H s) (row s) _ _ _ (old s) _ _ _ l.loop-t.invariant x.0 next _ (in-of c).loop-t-test.true x.1 x.2 x.3 e

index_of : (c : Set) → let l = at_of c in ((base l).args.at + l.loop-t.t < length l.loop-t.pool) × (length l.loop-t.pool ≤ pool_limit)
index_of c = let l = at_of c in index (base l) _ _ _ l.loop-t.invariant (in-of c).loop-t-test.true

pub bounds-pool-at : goal.bounds-pool-at
bounds-pool-at c = (index_of c).0

-- ---- the next instant
set-part : (c : Set) → let l = at_of c in let s = base l in
    (s.args.start ≤ s.args.end) × (s.args.end ≤ length (set l.loop-t.pool (s.args.at + l.loop-t.t) (to_z w32 c.match-label.written-bits))) × (s.args.end ≤ pool_limit)
set-part c = part (base (at_of c)) _ _ _ (more c _ refl)

pub slice_bounds-cursor_next-end : goal.slice_bounds-cursor_next-end
slice_bounds-cursor_next-end c = (set-part (goal.at.slice_bounds-cursor_next-end c).Joined-label).1

pub cursor_next-cursor-requires : goal.cursor_next-cursor-requires
cursor_next-cursor-requires c =
    let w = (goal.at.cursor_next-cursor-requires c).Joined-label in
    let l = at_of w in
    record { sound = (asks (base l) _ _ _ (more w _ refl) l.loop-t.cursor l.loop-t.t (in-of w).loop-t-test.true l.loop-t.invariant.is-cursor).0; standing = (asks (base l) _ _ _ (more w _ refl) l.loop-t.cursor l.loop-t.t (in-of w).loop-t-test.true l.loop-t.invariant.is-cursor).1 }

pub loop-t-preserved : goal.loop-t-preserved
loop-t-preserved c =
    let w = (goal.at.loop-t-preserved c).Joined-label in
    let l = at_of w in
    let k = kept (base l) _ _ _ (more w _ refl) in
    more w c.cursor_next-cursor.result ((rw k at c.cursor_next-cursor.ensures) (pos l.loop-t.t) l.loop-t.invariant.is-cursor)

-- ---- the end
pub shape_of-pool : goal.shape_of-pool
shape_of-pool c = same (base (goal.at.shape_of-pool c).At-loop-t) _ _ _ c.loop-t.invariant

pub returns : goal.returns
returns c =
    let l = (goal.at.returns c).At-loop-t in
    let s = base l in
    let e : l.loop-t.t ≡ s.args.size = omega arith in
    let g = subst (Grown (C s) (H s) (row s) s.args.at s.args.size s.args.from.t (old s) l.loop-t.pool l.loop-t.cursor) e l.loop-t.invariant in
    ends s _ _ _ record { follows = record { in-room = g.in-room; cursor = g.is-cursor }; on = g.on; cells = g.cells; below = g.below; stops = λ m. absurd (omega arith) }

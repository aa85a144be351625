-- `match_alter::compare` meets its contract: each turn of the loop finds the altered granule of the next label, and compares the stretch that has it.
-- Assumes nothing.
use borrow.Author.Rules.{sfits_of}
use borrow.Author.Tests.{not-true, not-false}
use mathlib.Core.Path.{◌≡◌, sym, subst, subst₂}
use mathlib.Core.Option.{some}
use mathlib.Core.Bool.{true}
use Prim.Native.Nat.{◌^◌, ◌≤◌, ◌<◌}
use native.Mathlib.Omega.{arith}
use lib.IntN.{ℤ, pos}
use lib.Signed.{◌≤ℤ◌, ◌<ℤ◌}
use mir.Facts.{to_z-of_z}
use mir.Syntax.{w64}
use mir.Val.{SFits, to_z, of_z}
use Rattle.integers.proofs.Linear.{ints, ◌∴◌}
use Rattle.integers.proofs.Machine.{test-lt, test-not-lt}
use Rattle.calendar.specs.Limits.{pool_limit}
use Rattle.calendar.specs.Meaning.{Row, meant}
use Rattle.calendar.specs.Sound.{sound}
use Rattle.cursors.specs.Found.{Within}
use Rattle.cursors.specs.Cursor.{cursor_at, Shown}
use Rattle.cursors.proofs.Numbers.{numbers}
use Rattle.kinds.specs.Stands.{row_in}
use Rattle.alter_granules.proofs.Reach.{Turns, turns_near}
use Rattle.alter_granules.proofs.Followed.{reaches}
use Rattle.fill_shared.proofs.Points.{label_small}
use Rattle.fill_alter.proofs.Scans.{Found, both}
use Rattle.match_shared.proofs.Lent.{lent_row}
use Rattle.match_stretches.specs.Stretch.{Room, Stretched}
use Rattle.match_stretches.proofs.Rows.{period-positive, lent_is, cursor-start}
use Rattle.match_alter.specs.declared.Scan.{Scan}
use Rattle.match_alter.specs.Scanning.{instant_of, Walking, Reading, FoundAhead, FoundBehind}
use Rattle.match_alter.proofs.Scanned.{scanned-led, scanned-done, scanned-other, found-on, scanned-next, scanned-ahead, scanned-seeks, scanned-reads, scanned-behind}
use Rattle.match_alter.proofs.compare.Goals as goal
use Rattle.match_alter.proofs.compare.Goals.{After-begin-scan, After-cells_of-a_cells, After-compare_stretch-seen, After-find_ahead-scan, After-find_behind-scan, After-label_of-j, At-loop-seen, Else-j-walk, Else-not-seen, In-loop-seen, Joined-j-walk, then-j-walk, else-j-walk, Start as Start-place}

-- ---- before the loop
abbrev Start : Type 0
Start = Start-place

abbrev A : Start → Row
A s = row_in s.args.pool.now s.args.a

abbrev B : Start → Row
B s = row_in s.args.pool.now s.args.b

abbrev R : Start → Row
R s = row_in s.args.pool.now s.args.r

pub cells_of-a_cells-requires : goal.cells_of-a_cells-requires
cells_of-a_cells-requires c = let f = c.requires.comparable.a-stands in record { pos_bound = period-positive _ _ f; a_in_bounds = f.fits }

pub begin-scan-requires : goal.begin-scan-requires
begin-scan-requires c = let s = (goal.at.begin-scan-requires c).Start in record { stands = (s.requires.comparable.a-stands, s.requires.comparable.b-stands); alterable = s.requires.alterable }

room : (s : Start) → Room s.args.a s.args.r s.args.period s.args.pool.now
room s = let p = s.requires.comparable in record { followed = p.a-stands; claim = p.r-stands; few = p.few; in-room = p.room }

pub compare_leading-seen-requires : goal.compare_leading-seen-requires
compare_leading-seen-requires c = room (goal.at.compare_leading-seen-requires c).Start

pub loop-seen-init : goal.loop-seen-init
loop-seen-init c =
    let g = (goal.at.loop-seen-init c).After-begin-scan in
    let s = (goal.at.After-begin-scan g).Start in
    let p = s.requires.comparable in
    scanned-led s.args.by s.args.repeat (A s) (B s) (R s) s.args.period s.requires.alterable p.is-period p.in-range g.begin-scan.result c.compare_leading-seen.result
    c.compare_leading-seen.ensures g.begin-scan.ensures.walk g.begin-scan.ensures.place (cursor-start _ _ p.a-stands) (cursor-start _ _ p.r-stands)

-- ---- a turn
abbrev At : Type 0
At = At-loop-seen

abbrev lent : At → After-cells_of-a_cells
lent l = (goal.at.At-loop-seen l).After-cells_of-a_cells

abbrev entry : At → Start
entry l = (goal.at.At-loop-seen l).Start

-- the loop goes on
abbrev In : Type 0
In = In-loop-seen

abbrev at_of : In → At
at_of c = (goal.at.In-loop-seen c).At-loop-seen

inside : (c : In) → (at_of c).loop-seen.seen.t < (entry (at_of c)).args.period
inside c = c.loop-seen-test.true

early : (c : In) → (at_of c).loop-seen.seen.t ≤ pool_limit
early c = omega (arith, inside c, (entry (at_of c)).requires.comparable.room)

pub returns-then-not-seen : goal.returns-then-not-seen
returns-then-not-seen c =
    let l = at_of (goal.at.returns-then-not-seen c).In-loop-seen in
    let s = entry l in
    let p = s.requires.comparable in
    scanned-other s.args.by s.args.repeat (A s) (B s) (R s) s.args.period s.requires.alterable p.is-period p.in-range l.loop-seen.scan l.loop-seen.seen l.loop-seen.invariant (not-true _ c.if-not-seen.true)

-- all labels so far are the same
abbrev Agreed : Type 0
Agreed = Else-not-seen

abbrev in-of : Agreed → In
in-of c = (goal.at.Else-not-seen c).In-loop-seen

same : (c : Agreed) → (at_of (in-of c)).loop-seen.seen.same ≡ true
same c = not-false _ c.if-not-seen.false

a-is : (l : At) → lent_row (entry l).args.a (lent l).cells_of-a_cells.result.now ≡ A (entry l)
a-is l = lent_is _ _ (entry l).requires.comparable.a-stands _ (lent l).cells_of-a_cells.ensures

pub label_of-j-requires : goal.label_of-j-requires
label_of-j-requires c =
    let i = in-of (goal.at.label_of-j-requires c).Else-not-seen in
    let l = at_of i in
    let n = early i in
    let h = l.loop-seen.invariant.stage in
    let x = subst (λ (r : Row). (sound r ≡ true) × Shown r l.loop-seen.seen.cursor) (sym (a-is l))
    ((entry l).requires.comparable.a-stands.is-sound, (pos l.loop-seen.seen.t, simp ints (omega arith), h.follows.cursor, h.stops (inside i))) in
    record { sound = x.0; shown = x.1 }

-- ---- the label
abbrev Read : Type 0
Read = After-label_of-j

abbrev agreed-of : Read → Agreed
agreed-of c = (goal.at.After-label_of-j c).Else-not-seen

abbrev here : Read → At
here c = at_of (in-of (agreed-of c))

abbrev label : Read → ℤ
label c = c.label_of-j.result

label_is : (c : Read) → let l = here c in meant (A (entry l)) (pos l.loop-seen.seen.t) ≡ some (label c)
label_is c =
    let l = here c in
    (rw (a-is l) at c.label_of-j.ensures) (pos l.loop-seen.seen.t) l.loop-seen.invariant.stage.follows.cursor

label-near : (c : Read) → Within (2 ^ 40) (label c)
label-near c =
    let l = here c in
    let s = entry l in
    let n = early (in-of (agreed-of c)) in
    label_small s.args.a.period s.args.a.distance (A s).cells s.requires.comparable.a-stands.is-sound (pos l.loop-seen.seen.t) (label c) (simp ints (omega arith)) (simp ints (omega arith)) (label_is c)

label-fits : (c : Read) → SFits w64 (label c)
label-fits c = label-near c ∴ simp ints (omega arith)

-- as the machine has it
abbrev j-of : Read → ℤ
j-of c = to_z w64 (of_z w64 (label c))

j-read : (c : Read) → j-of c ≡ label c
j-read c = to_z-of_z {w = w64} (label-fits c)

-- where it is decided how the granule is found
end_fits : (c : Read) → SFits w64 (here c).loop-seen.scan.walk.end
end_fits c = let n = (here c).loop-seen.invariant.follows.walk.origin.end-near in n.0 ∴ n.1 ∴ simp ints (omega arith)

-- what is found
abbrev Finds : Read → Scan → Type 0
Finds c t =
    let l = here c in
    let s = entry l in
    Found s.args.by s.args.repeat (A s) (B s) l.loop-seen.seen.t (label c) t.walk (instant_of t.place) t.number t.high × (t.place.claim ≡ cursor_at (R s) (pos t.place.index))

-- ---- by the walk over b
pub find_ahead-scan-requires : goal.find_ahead-scan-requires
find_ahead-scan-requires c =
    let d = (goal.at.find_ahead-scan-requires c).After-label_of-j in
    let l = here d in
    let s = entry l in
    let n = l.loop-seen.scan in
    let f = l.loop-seen.invariant.follows in
    let r = reaches s.args.by s.args.repeat (A s) (B s) s.requires.alterable l.loop-seen.seen.t (both n.walk (instant_of n.place)) f (label d) (label_is d) in
    let b = subst₂ ◌<ℤ◌ (j-read d) (to_z-of_z {w = w64} (end_fits d)) ((test-lt _ _).0 c.if-j-walk.true) in
    record {
      stands = (s.requires.comparable.a-stands, s.requires.comparable.b-stands);
      altering = (s.args.repeat, s.requires.alterable);
      walking = subst (λ (z : ℤ). Walking s.args.by (A s) (B s) z n) (sym (j-read d)) record { walk = f.walk; reached = r; before = b; near = label-near d };
    }

ahead : (d : Read) (t : Scan) → let l = here d in let s = entry l in FoundAhead s.args.by (A s) (B s) (j-of d) l.loop-seen.scan t → Finds d t
ahead d t e =
    let l = here d in
    let s = entry l in
    let p = s.requires.comparable in
    scanned-ahead s.args.by s.args.repeat (A s) (B s) (R s) s.args.period s.requires.alterable p.is-period p.in-range l.loop-seen.scan l.loop-seen.seen l.loop-seen.invariant
    (inside (in-of (agreed-of d))) (label d) (label_is d) t (rw (j-read d) at e)

-- ---- by the claimed row
past : (d : Read) → to_z w64 (of_z w64 (here d).loop-seen.scan.walk.end) ≤ℤ j-of d → (here d).loop-seen.scan.walk.end ≤ℤ label d
past d h = subst₂ ◌≤ℤ◌ (to_z-of_z {w = w64} (end_fits d)) (j-read d) h

turns : (s : Start) → Turns s.args.repeat
turns s =
    let a = s.args.a in
    let b = s.args.b in
    let p = s.requires.comparable in
    turns_near s.args.by s.args.repeat (A s) (B s) s.requires.alterable (numbers a.period a.distance (A s).cells p.a-stands.is-sound).middle (numbers b.period b.distance (B s).cells p.b-stands.is-sound).middle

pub find_behind-scan-requires : goal.find_behind-scan-requires
find_behind-scan-requires c =
    let d = (goal.at.find_behind-scan-requires c).After-label_of-j in
    let l = here d in
    let s = entry l in
    let p = s.requires.comparable in
    let n = turns s in
    let x = past d ((test-not-lt _ _).0 c.if-j-walk.false) in
    let i = in-of (agreed-of d) in
    record {
      stands = (p.a-stands, p.r-stands);
      reading = subst (λ (z : ℤ). Reading s.args.repeat (A s) (R s) z l.loop-seen.scan) (sym (j-read d)) record {
        seeking = scanned-seeks s.args.by s.args.repeat (A s) (B s) (R s) s.args.period s.requires.alterable p.is-period p.in-range l.loop-seen.scan l.loop-seen.seen l.loop-seen.invariant
            (inside i) (label d) (label_is d) x (same (agreed-of d)) p.room;
        labelled = scanned-reads s.args.by s.args.repeat (A s) (B s) (R s) s.args.period s.requires.alterable p.is-period p.in-range l.loop-seen.scan l.loop-seen.seen l.loop-seen.invariant
            (inside i) (label d) (label_is d) x (same (agreed-of d)) p.room;
        near = label-near d;
        coarse = n.coarse-low ∴ n.middle ∴ n.fine-high ∴ simp ints (omega arith);
        fine = n.coarse-low ∴ n.middle ∴ n.fine-high ∴ simp ints (omega arith);
      };
    }

behind : (d : Read) → (here d).loop-seen.scan.walk.end ≤ℤ label d → (t : Scan) → let l = here d in let s = entry l in FoundBehind s.args.repeat (A s) (R s) (j-of d) l.loop-seen.scan t → Finds d t
behind d h t e =
    let l = here d in
    let s = entry l in
    let p = s.requires.comparable in
    scanned-behind s.args.by s.args.repeat (A s) (B s) (R s) s.args.period s.requires.alterable p.is-period p.in-range l.loop-seen.scan l.loop-seen.seen l.loop-seen.invariant
    (inside (in-of (agreed-of d))) (label d) (label_is d) h (same (agreed-of d)) p.room t (rw (j-read d) at e)

-- ---- by either
abbrev Known : Type 0
Known = Joined-j-walk

finds : (c : Known) → Finds (goal.at.Joined-j-walk c).After-label_of-j c.if-j-walk.scan
finds c =
    let d = (goal.at.Joined-j-walk c).After-label_of-j in
    elim c.if-j-walk.branch [
      | then-j-walk w ↦ subst (Finds d) (sym w.scan-is) (ahead d w.find_ahead-scan.result w.find_ahead-scan.ensures)
      | else-j-walk w ↦ subst (Finds d) (sym w.scan-is) (behind d (past d ((test-not-lt _ _).0 w.if-j-walk.false)) w.find_behind-scan.result w.find_behind-scan.ensures)
    ]

-- ---- its stretch
pub compare_stretch-seen-requires : goal.compare_stretch-seen-requires
compare_stretch-seen-requires c = let l = here ((goal.at.compare_stretch-seen-requires c).After-label_of-j) in record { room = room (entry l); follows = l.loop-seen.invariant.stage.follows }

abbrev Passed : Type 0
Passed = After-compare_stretch-seen

abbrev known_of : Passed → Known
known_of c = (goal.at.After-compare_stretch-seen c).Joined-j-walk

abbrev read_at : Passed → Read
read_at c = (goal.at.Joined-j-walk (known_of c)).After-label_of-j

stretched : (c : Passed) → let l = here (read_at c) in let s = entry l in let t = (known_of c).if-j-walk.scan in
    Stretched (some t.number) t.high (A s) (R s) s.args.period l.loop-seen.seen c.compare_stretch-seen.result
stretched c =
    let t = (known_of c).if-j-walk.scan in
    let n : SFits w64 t.number = sfits_of c.struct_told-in-loop-seen-3-1.given.1.1.0.1 in
    let h : SFits w64 t.high = sfits_of c.struct_told-in-loop-seen-4-1.given.1.1.1.0.1 in
    rw (to_z-of_z {w = w64} n, to_z-of_z {w = w64} h) at c.compare_stretch-seen.ensures

goes_on : (c : Passed) → (here (read_at c)).loop-seen.seen.t < c.compare_stretch-seen.result.t
goes_on c =
    let d = read_at c in
    let l = here d in
    let s = entry l in
    let p = s.requires.comparable in
    found-on s.args.by s.args.repeat (A s) (B s) (R s) s.args.period s.requires.alterable p.is-period p.in-range l.loop-seen.scan l.loop-seen.seen l.loop-seen.invariant
    (inside (in-of (agreed-of d))) (label d) (label_is d) (known_of c).if-j-walk.scan (finds (known_of c)).0 c.compare_stretch-seen.result (stretched c)

pub loop-seen-smaller : goal.loop-seen-smaller
loop-seen-smaller c = omega (arith, goes_on c, (stretched c).passed.follows.in-room)

pub loop-seen-preserved : goal.loop-seen-preserved
loop-seen-preserved c =
    let d = read_at c in
    let l = here d in
    let s = entry l in
    let p = s.requires.comparable in
    let f = finds (known_of c) in
    scanned-next s.args.by s.args.repeat (A s) (B s) (R s) s.args.period s.requires.alterable p.is-period p.in-range l.loop-seen.scan l.loop-seen.seen l.loop-seen.invariant
    (inside (in-of (agreed-of d))) (label d) (label_is d) (known_of c).if-j-walk.scan f.0 c.compare_stretch-seen.result (stretched c) f.1

-- ---- the end
pub returns-then-seen : goal.returns-then-seen
returns-then-seen c =
    let l = (goal.at.returns-then-seen c).At-loop-seen in
    let s = entry l in
    let p = s.requires.comparable in
    (scanned-done s.args.by s.args.repeat (A s) (B s) (R s) s.args.period s.requires.alterable p.is-period p.in-range l.loop-seen.scan l.loop-seen.seen l.loop-seen.invariant c.loop-seen-test.false).0 c.if-seen.true

pub returns-else-seen : goal.returns-else-seen
returns-else-seen c =
    let l = (goal.at.returns-else-seen c).At-loop-seen in
    let s = entry l in
    let p = s.requires.comparable in
    (scanned-done s.args.by s.args.repeat (A s) (B s) (R s) s.args.period s.requires.alterable p.is-period p.in-range l.loop-seen.scan l.loop-seen.seen l.loop-seen.invariant c.loop-seen-test.false).1 c.if-seen.false

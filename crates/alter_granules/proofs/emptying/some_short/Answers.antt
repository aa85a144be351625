-- `alter_granules::emptying::some_short` meets its contract: it is a pass over the granules, and each next one begins where the one at hand ends.
-- Assumes nothing.
use borrow.Author.Rules.{sfits_of}
use mathlib.Core.Path.{◌≡◌, sym, ◌∙◌}
use Prim.Native.Nat.{◌^◌}
use native.Mathlib.Omega.{arith}
use lib.IntN.{ℤ, pos, ◌+ℤ◌, ◌-ℤ◌}
use lib.Signed.{◌≤ℤ◌, ◌<ℤ◌}
use mir.Facts.{to_z-of_z}
use mir.Syntax.{w64}
use mir.Val.{to_z, of_z, SFits}
use Rattle.integers.specs.Parts.{up}
use Rattle.integers.proofs.Linear.{ints, ◌∴◌}
use Rattle.integers.proofs.Machine.{plain, test-lt, test-not-lt}
use Rattle.calendar.specs.Meaning.{Row}
use Rattle.calendar.specs.Questions.{given}
use Rattle.cursors.specs.Found.{Sound, Within}
use Rattle.cursors.proofs.Numbers.{numbers, valid}
use Rattle.algebra.proofs.Fine.{Partitioned}
use Rattle.alter_granules.specs.declared.coarse.Begin.{Begin}
use Rattle.alter_granules.specs.CoarseBegins.{at}
use Rattle.alter_granules.specs.Short.{short_by, Passable}
use Rattle.alter_granules.proofs.Beginnings.{Next}
use Rattle.integers.proofs.Order.{up-less}
use Rattle.alter_granules.proofs.Passes.{Small, passed_start, passed-place, passed-small, passed-short, passed-next, passed-end}
use Rattle.alter_granules.proofs.emptying.some_short.Goals as goal
use Rattle.alter_granules.proofs.emptying.some_short.Goals.{After-following-next, After-is_short, After-struct_told-in-loop-n-1, After-struct_told-in-loop-n-2-1, At-loop-n, Else-is_short, In-loop-n, Start as Start-place}

-- the rows as the machine has them
abbrev Start : Type 0
Start = Start-place

abbrev a-row : Start → Row
a-row s = given (to_z w64 (of_z w64 s.args.a_period)) (to_z w64 (of_z w64 s.args.a_distance)) s.args.a_cells.now

abbrev b-row : Start → Row
b-row s = given (to_z w64 (of_z w64 s.args.b_period)) (to_z w64 (of_z w64 s.args.b_distance)) s.args.b_cells.now

abbrev common : Start → ℤ
common s = to_z w64 (of_z w64 s.args.common)

abbrev count : Start → ℤ
count s = to_z w64 (of_z w64 s.args.count)

a-sound : (s : Start) → Sound (to_z w64 (of_z w64 s.args.a_period)) (to_z w64 (of_z w64 s.args.a_distance)) s.args.a_cells.now
a-sound s =
    let p = s.ranges.a_period in
    let n = s.ranges.a_distance in
    simp plain s.requires.sound

b-sound : (s : Start) → Sound (to_z w64 (of_z w64 s.args.b_period)) (to_z w64 (of_z w64 s.args.b_distance)) s.args.b_cells.now
b-sound s =
    let p = s.ranges.b_period in
    let n = s.ranges.b_distance in
    simp plain s.requires.sound_2

passable : (s : Start) → Passable s.args.by (a-row s) (b-row s) s.args.start (common s) (count s)
passable s =
    let p = s.ranges.a_period in
    let n = s.ranges.a_distance in
    let q = s.ranges.b_period in
    let m = s.ranges.b_distance in
    let g = s.ranges.common in
    let k = s.ranges.count in
    simp plain s.requires.passable

known : (s : Start) → Partitioned (a-row s) (b-row s)
known s = record {
  valid = (
    valid (to_z w64 (of_z w64 s.args.a_period)) (to_z w64 (of_z w64 s.args.a_distance)) s.args.a_cells.now (a-sound s),
    valid (to_z w64 (of_z w64 s.args.b_period)) (to_z w64 (of_z w64 s.args.b_distance)) s.args.b_cells.now (b-sound s),
  );
  full = (passable s).full;
  partition = (passable s).partition;
}

pub loop-n-init : goal.loop-n-init
loop-n-init s = passed_start s.args.by (a-row s) (b-row s) (known s) (up (common s)) (count s) s.args.start (passable s).begins (passable s).low

-- where the pass is
place : (l : At-loop-n) → Within (2 ^ 54) (at (b-row (goal.at.At-loop-n l).Start) l.loop-n.c)
place l =
    let s = (goal.at.At-loop-n l).Start in
    passed-place s.args.by (a-row s) (b-row s) (known s) (up (common s)) (count s) s.args.start l.loop-n.c (to_z w64 l.loop-n._n-bits) l.loop-n.invariant
    (passable s).near (passable s).high

wider : {t : ℤ} → Within (2 ^ 54) t → Within (2 ^ 58) t
wider {t} = simp ints (omega arith)

pub following-next-requires : goal.following-next-requires
following-next-requires c =
    let l = (goal.at.following-next-requires c).At-loop-n in
    let s = (goal.at.At-loop-n l).Start in
    record {
      sound = a-sound s;
      sound_2 = b-sound s;
      full = (passable s).full;
      partition = (passable s).partition;
      coarse_begins = l.loop-n.invariant.begins;
      within = wider (place l);
    }

-- where it goes
abbrev there : After-following-next → Begin
there d = d.following-next.result

reach : (y : ℤ) {x p q : ℤ} → x ≤ℤ (y +ℤ p) → p ≡ q → x ≤ℤ (y +ℤ q)
reach y {x} {p} {q} = simp ints (omega arith)

next : (d : After-following-next) → let l = (goal.at.After-following-next d).At-loop-n in Next (a-row (goal.at.At-loop-n l).Start) (b-row (goal.at.At-loop-n l).Start) l.loop-n.c (there d)
next d =
    let l = (goal.at.After-following-next d).At-loop-n in
    let s = (goal.at.At-loop-n l).Start in
    let n = numbers (to_z w64 (of_z w64 s.args.b_period)) (to_z w64 (of_z w64 s.args.b_distance)) s.args.b_cells.now (b-sound s) in
    let e = d.following-next.ensures in
    record { begins = e.begins; of = e.of; behind = e.near.0; near = reach (at (b-row s) l.loop-n.c) e.near.1 n.period-is }

more : (c : In-loop-n) → to_z w64 c.loop-n._n-bits <ℤ count (goal.at.In-loop-n c).Start
more c = (test-lt (to_z w64 c.loop-n._n-bits) (count (goal.at.In-loop-n c).Start)).0 c.loop-n-test.true

small : (d : After-following-next) → Small d.loop-n.c (there d)
small d =
    let l = (goal.at.After-following-next d).At-loop-n in
    let s = (goal.at.At-loop-n l).Start in
    passed-small (to_z w64 (of_z w64 s.args.a_period)) (to_z w64 (of_z w64 s.args.a_distance)) s.args.a_cells.now
    (to_z w64 (of_z w64 s.args.b_period)) (to_z w64 (of_z w64 s.args.b_distance)) s.args.b_cells.now
    (a-sound s) (b-sound s) s.args.by (up (common s)) (count s) s.args.start l.loop-n.c (there d) (to_z w64 l.loop-n._n-bits) l.loop-n.invariant (next d) (place l)

-- how many fine granules the granule at hand has
abbrev size : After-following-next → ℤ
size d = (there d).p -ℤ d.loop-n.c.p

size_fits : (d : After-following-next) → SFits w64 (size d)
size_fits d = (small d).size ∴ simp ints (omega arith)

-- the labels as they are read
there-fits : (c : After-struct_told-in-loop-n-1) → SFits w64 (there (goal.at.After-struct_told-in-loop-n-1 c).After-following-next).p
there-fits c = sfits_of c.struct_told-1.given.1.0.1

here-fits : (c : After-struct_told-in-loop-n-1) → SFits w64 c.loop-n.c.p
here-fits c = sfits_of c.struct_told-in-loop-n-1.given.1.0.1

pub overflow_sub-size : goal.overflow_sub-size
overflow_sub-size c =
    let p = there-fits c in
    let q = here-fits c in
    simp plain (size_fits (goal.at.overflow_sub-size c).After-following-next)

abbrev behind : After-struct_told-in-loop-n-2-1 → After-following-next
behind c = (goal.at.After-struct_told-in-loop-n-2-1 c).After-following-next

pub is_short-requires : goal.is_short-requires
is_short-requires c =
    let d = behind c in
    let l = (goal.at.After-following-next d).At-loop-n in
    let p = there-fits (goal.at.is_short-requires c).After-struct_told-in-loop-n-1 in
    let q = here-fits (goal.at.is_short-requires c).After-struct_told-in-loop-n-1 in
    let i : SFits w64 l.loop-n.c.i = sfits_of c.struct_told-in-loop-n-2-1.given.0.1 in
    let f = size_fits d in
    record {
      limits = (passable (goal.at.At-loop-n l).Start).limits;
      pos_bound = (passable (goal.at.At-loop-n l).Start).divides;
      within = simp plain ((small d).label);
      within_2 = simp plain ((small d).size);
    }

tested : (c : After-is_short) → let d = behind (goal.at.After-is_short c).After-struct_told-in-loop-n-2-1 in let l = (goal.at.After-following-next d).At-loop-n in
    c.is_short.result ≡ short_by l.args.by (up (common (goal.at.At-loop-n l).Start)) l.loop-n.c.i (size d)
tested c =
    let d = behind (goal.at.After-is_short c).After-struct_told-in-loop-n-2-1 in
    let l = (goal.at.After-following-next d).At-loop-n in
    let p = there-fits (goal.at.After-is_short c).After-struct_told-in-loop-n-1 in
    let q = here-fits (goal.at.After-is_short c).After-struct_told-in-loop-n-1 in
    let i : SFits w64 l.loop-n.c.i = sfits_of c.struct_told-in-loop-n-2-1.given.0.1 in
    let f = size_fits d in
    simp plain at c.is_short.ensures

pub returns-then-is_short : goal.returns-then-is_short
returns-then-is_short c =
    let d = behind (goal.at.returns-then-is_short c).After-struct_told-in-loop-n-2-1 in
    let l = (goal.at.After-following-next d).At-loop-n in
    let s = (goal.at.At-loop-n l).Start in
    let e =
    passed-short s.args.by (a-row s) (b-row s) (known s) (up (common s)) (count s) s.args.start l.loop-n.c (to_z w64 l.loop-n._n-bits) l.loop-n.invariant
    (more (goal.at.After-following-next d).In-loop-n) (there d) (next d) (sym (tested (goal.at.returns-then-is_short c).After-is_short) ∙ c.if-is_short.true) in
    let p = s.ranges.a_period in
    let n = s.ranges.a_distance in
    let q = s.ranges.b_period in
    let m = s.ranges.b_distance in
    let g = s.ranges.common in
    let k = s.ranges.count in
    sym (simp plain at e)

-- the next number
abbrev at-loop : Else-is_short → At-loop-n
at-loop c = (goal.at.Else-is_short c).At-loop-n

n-next : (c : Else-is_short) → to_z w64 (of_z w64 (to_z w64 (at-loop c).loop-n._n-bits +ℤ pos 1)) ≡ to_z w64 (at-loop c).loop-n._n-bits +ℤ pos 1
n-next c =
    let l = at-loop c in
    to_z-of_z {w = w64} (l.loop-n.invariant.low ∴ l.loop-n.invariant.high ∴ (passable (goal.at.At-loop-n l).Start).high ∴ simp ints (omega arith))

pub loop-n-smaller : goal.loop-n-smaller
loop-n-smaller c =
    let d = behind (goal.at.loop-n-smaller c).After-struct_told-in-loop-n-2-1 in
    let l = at-loop c in
    up-less (count (goal.at.At-loop-n l).Start -ℤ to_z w64 (of_z w64 (to_z w64 l.loop-n._n-bits +ℤ pos 1))) (count (goal.at.At-loop-n l).Start -ℤ to_z w64 l.loop-n._n-bits)
    (n-next c ∴ simp ints (omega arith)) (more (goal.at.After-following-next d).In-loop-n ∴ simp ints (omega arith))

pub loop-n-preserved : goal.loop-n-preserved
loop-n-preserved c =
    let d = behind (goal.at.loop-n-preserved c).After-struct_told-in-loop-n-2-1 in
    let l = (goal.at.After-following-next d).At-loop-n in
    let s = (goal.at.At-loop-n l).Start in
    let n = numbers (to_z w64 (of_z w64 s.args.b_period)) (to_z w64 (of_z w64 s.args.b_distance)) s.args.b_cells.now (b-sound s) in
    rw (n-next c)
    (passed-next s.args.by (a-row s) (b-row s) (known s) (up (common s)) (count s) s.args.start l.loop-n.c (to_z w64 l.loop-n._n-bits) l.loop-n.invariant
    (more (goal.at.After-following-next d).In-loop-n) (there d) (next d) (n.high ∴ simp ints (omega arith)) (sym (tested (goal.at.loop-n-preserved c).After-is_short) ∙ c.if-is_short.false))

pub returns : goal.returns
returns c =
    let l = (goal.at.returns c).At-loop-n in
    let s = (goal.at.At-loop-n l).Start in
    let e =
    passed-end s.args.by (a-row s) (b-row s) (known s) (up (common s)) (count s) s.args.start l.loop-n.c (to_z w64 l.loop-n._n-bits) l.loop-n.invariant
    ((test-not-lt (to_z w64 l.loop-n._n-bits) (count s)).0 c.loop-n-test.false) in
    let p = s.ranges.a_period in
    let n = s.ranges.a_distance in
    let q = s.ranges.b_period in
    let m = s.ranges.b_distance in
    let g = s.ranges.common in
    let k = s.ranges.count in
    sym (simp plain at e)

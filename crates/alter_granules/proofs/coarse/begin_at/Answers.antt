-- `alter_granules::coarse::begin_at` meets its contract: the first instant of b's granule of t is in the first granule of a that meets it.
-- Assumes nothing.
use borrow.Author.Rules.{sfits_of}
use mathlib.Core.Path.{◌≡◌, sym, ◌∙◌, ap}
use mathlib.Core.Option.{some}
use native.Mathlib.Omega.{arith}
use lib.IntN.{ℤ, ◌-ℤ◌}
use lib.Signed.{◌≤ℤ◌}
use mir.Syntax.{w64}
use mir.Val.{SFits}
use Rattle.integers.proofs.Linear.{ints, ◌∴◌}
use Rattle.integers.proofs.Machine.{plain}
use Rattle.calendar.specs.Meaning.{Row, meant}
use Rattle.calendar.specs.Lists.{first}
use Rattle.calendar.specs.Granules.{granule}
use Rattle.calendar.specs.Questions.{given}
use Rattle.granules.proofs.Tests.{some_inj}
use Rattle.granules.proofs.Questions.{first-at-most}
use Rattle.cursors.specs.Found.{Near}
use Rattle.cursors.specs.Cursor.{cursor_at}
use Rattle.cursors.proofs.Numbers.{numbers, valid}
use Rattle.cursors.proofs.Bounds.{first-bounds}
use Rattle.containment.proofs.Places.{instant-is}
use Rattle.algebra.proofs.Fine.{Partitioned}
use Rattle.alter_granules.specs.declared.coarse.Begin.{Begin}
use Rattle.alter_granules.specs.CoarseBegins.{at, CoarseBegins}
use Rattle.alter_granules.proofs.Beginnings.{begins-at}
use Rattle.alter_granules.proofs.coarse.begin_at.Goals as goal
use Rattle.alter_granules.proofs.coarse.begin_at.Goals.{After-cursor_at-b, After-first_instant-v, After-label_of-i, Start}

abbrev a-row : Start → Row
a-row s = given s.args.a_period s.args.a_distance s.args.a_cells.now

abbrev b-row : Start → Row
b-row s = given s.args.b_period s.args.b_distance s.args.b_cells.now

known : (s : Start) → Partitioned (a-row s) (b-row s)
known s = record {
  valid = (
    valid s.args.a_period s.args.a_distance s.args.a_cells.now s.requires.sound,
    valid s.args.b_period s.args.b_distance s.args.b_cells.now s.requires.sound_2,
  );
  full = s.requires.full;
  partition = s.requires.partition;
}

-- b's label at t
abbrev own : Start → ℤ
own s = s.requires.t_value.0

own-label : (s : Start) → meant (b-row s) s.args.t ≡ some (own s)
own-label s = s.requires.t_value.1

pub first_instant-v-requires : goal.first_instant-v-requires
first_instant-v-requires s =
    let p = s.ranges.b_period in
    let n = s.ranges.b_distance in
    let t = s.ranges.t in
    let w = s.requires.within in
    record {
      sound = simp plain s.requires.sound_2;
      labelled = simp plain ((own s, own-label s), (w ∴ simp ints (omega arith), w ∴ simp ints (omega arith)));
    }

-- the first instant of its granule
abbrev beginning : After-first_instant-v → ℤ
beginning c = c.first_instant-v.result

beginning-is : (c : After-first_instant-v) → beginning c ≡ first (granule (b-row (goal.at.After-first_instant-v c).Start) (own (goal.at.After-first_instant-v c).Start))
beginning-is c =
    let s = (goal.at.After-first_instant-v c).Start in
    let p = s.ranges.b_period in
    let n = s.ranges.b_distance in
    let t = s.ranges.t in
    (simp plain at c.first_instant-v.ensures) (own s) (own-label s)

b-shows : (c : After-first_instant-v) → meant (b-row (goal.at.After-first_instant-v c).Start) (beginning c) ≡ some (own (goal.at.After-first_instant-v c).Start)
b-shows c =
    let s = (goal.at.After-first_instant-v c).Start in
    ap (meant (b-row s)) (beginning-is c) ∙ (first-bounds (b-row s) (known s).valid.1 s.args.t (own s) (own-label s)).0

-- it is in a granule of a
abbrev fine : After-first_instant-v → ℤ
fine c = (((known (goal.at.After-first_instant-v c).Start).partition.labelled (beginning c)).1 (own (goal.at.After-first_instant-v c).Start, b-shows c)).0

a-shows : (c : After-first_instant-v) → meant (a-row (goal.at.After-first_instant-v c).Start) (beginning c) ≡ some (fine c)
a-shows c = (((known (goal.at.After-first_instant-v c).Start).partition.labelled (beginning c)).1 (own (goal.at.After-first_instant-v c).Start, b-shows c)).1

-- it is less than a period before t
bounds : (c : After-first_instant-v) → let s = (goal.at.After-first_instant-v c).Start in ((s.args.t -ℤ s.args.b_period) ≤ℤ beginning c) × (beginning c ≤ℤ s.args.t)
bounds c =
    let s = (goal.at.After-first_instant-v c).Start in
    let n = numbers s.args.b_period s.args.b_distance s.args.b_cells.now s.requires.sound_2 in
    let f = first-bounds (b-row s) (known s).valid.1 s.args.t (own s) (own-label s) in
    f.1 ∴ f.2 ∴ beginning-is c ∴ n.period-is ∴ simp ints (omega arith)

near : (c : After-first_instant-v) → Near (beginning c)
near c =
    let s = (goal.at.After-first_instant-v c).Start in
    let n = numbers s.args.b_period s.args.b_distance s.args.b_cells.now s.requires.sound_2 in
    s.requires.within ∴ bounds c ∴ n.period-is ∴ n.high ∴ simp ints (omega arith)

fits : (c : After-first_instant-v) → SFits w64 (beginning c)
fits c = sfits_of c.first_instant-v.type_inv

pub cursor_at-a-requires : goal.cursor_at-a-requires
cursor_at-a-requires c =
    let s = (goal.at.cursor_at-a-requires c).Start in
    let p = s.ranges.a_period in
    let n = s.ranges.a_distance in
    let v = fits c in
    record {
      sound = simp plain s.requires.sound;
      near = simp plain (near c);
    }

pub cursor_at-b-requires : goal.cursor_at-b-requires
cursor_at-b-requires c =
    let d = (goal.at.cursor_at-b-requires c).After-first_instant-v in
    let s = (goal.at.After-first_instant-v d).Start in
    let p = s.ranges.b_period in
    let n = s.ranges.b_distance in
    let v = fits d in
    record {
      sound = simp plain s.requires.sound_2;
      near = simp plain (near d);
    }

-- its cursors
abbrev begun : After-cursor_at-b → After-first_instant-v
begun c = (goal.at.After-cursor_at-b c).After-first_instant-v

a-cursor : (c : After-cursor_at-b) → c.cursor_at-a.result ≡ cursor_at (a-row (begun c).before) (beginning (begun c))
a-cursor c =
    let s = (begun c).before in
    let p = s.ranges.a_period in
    let n = s.ranges.a_distance in
    let v = fits (begun c) in
    simp plain at c.cursor_at-a.ensures

b-cursor : (c : After-cursor_at-b) → c.cursor_at-b.result ≡ cursor_at (b-row (begun c).before) (beginning (begun c))
b-cursor c =
    let s = (begun c).before in
    let p = s.ranges.b_period in
    let n = s.ranges.b_distance in
    let v = fits (begun c) in
    simp plain at c.cursor_at-b.ensures

pub label_of-p-requires : goal.label_of-p-requires
label_of-p-requires c =
    let d = begun c in
    let s = (goal.at.After-first_instant-v d).Start in
    let p = s.ranges.a_period in
    let n = s.ranges.a_distance in
    record {
      sound = simp plain s.requires.sound;
      shown = simp plain (beginning d, near d, a-cursor c, (fine d, a-shows d));
    }

pub label_of-i-requires : goal.label_of-i-requires
label_of-i-requires c =
    let d = begun (goal.at.label_of-i-requires c).After-cursor_at-b in
    let s = (goal.at.After-first_instant-v d).Start in
    let p = s.ranges.b_period in
    let n = s.ranges.b_distance in
    record {
      sound = simp plain s.requires.sound_2;
      shown = simp plain (beginning d, near d, b-cursor (goal.at.label_of-i-requires c).After-cursor_at-b, (own s, b-shows d));
    }

-- what is returned
abbrev made : After-label_of-i → Begin
made c = let d = (goal.at.After-label_of-i c).After-cursor_at-b in record { i = c.label_of-i.result; p = c.label_of-p.result; a = d.cursor_at-a.result; b = d.cursor_at-b.result }

a-label : (c : After-label_of-i) → let d = begun (goal.at.After-label_of-i c).After-cursor_at-b in meant (a-row (goal.at.After-first_instant-v d).Start) (beginning d) ≡ some (made c).p
a-label c =
    let d = begun (goal.at.After-label_of-i c).After-cursor_at-b in
    let s = (goal.at.After-first_instant-v d).Start in
    let p = s.ranges.a_period in
    let n = s.ranges.a_distance in
    (simp plain at c.label_of-p.ensures) (beginning d) (a-cursor (goal.at.After-label_of-i c).After-cursor_at-b)

b-label : (c : After-label_of-i) → let d = begun (goal.at.After-label_of-i c).After-cursor_at-b in meant (b-row (goal.at.After-first_instant-v d).Start) (beginning d) ≡ some (made c).i
b-label c =
    let d = begun (goal.at.After-label_of-i c).After-cursor_at-b in
    let s = (goal.at.After-first_instant-v d).Start in
    let p = s.ranges.b_period in
    let n = s.ranges.b_distance in
    (simp plain at c.label_of-i.ensures) (beginning d) (b-cursor (goal.at.After-label_of-i c).After-cursor_at-b)

placed : (c : After-label_of-i) → let d = begun (goal.at.After-label_of-i c).After-cursor_at-b in at (b-row (goal.at.After-first_instant-v d).Start) (made c) ≡ beginning d
placed c = let d = begun (goal.at.After-label_of-i c).After-cursor_at-b in instant-is (b-row (goal.at.After-first_instant-v d).Start) (known (goal.at.After-first_instant-v d).Start).valid.1 (made c).b (beginning d) (b-cursor (goal.at.After-label_of-i c).After-cursor_at-b)

same-granule : (c : After-label_of-i) → let d = begun (goal.at.After-label_of-i c).After-cursor_at-b in own (goal.at.After-first_instant-v d).Start ≡ (made c).i
same-granule c = some_inj (sym (b-shows (begun (goal.at.After-label_of-i c).After-cursor_at-b)) ∙ b-label c)

begins : (c : After-label_of-i) → let s = (begun (goal.at.After-label_of-i c).After-cursor_at-b).before in CoarseBegins (a-row s) (b-row s) (made c)
begins c =
    let e = (goal.at.After-label_of-i c).After-cursor_at-b in
    let d = begun e in
    let s = (goal.at.After-first_instant-v d).Start in
    let i = same-granule c in
    begins-at (a-row s) (b-row s) (known s) (made c) (beginning d) (a-cursor e) (b-cursor e) (a-label c) (b-label c)
    (λ u l. first-at-most (b-row s) (known s).valid.1 (own s) u (l ∙ ap some (sym i)) ∴ beginning-is d ∴ simp ints (omega arith))

pub returns : goal.returns
returns c =
    let d = begun (goal.at.returns c).After-cursor_at-b in
    let i : SFits w64 (made c).i = sfits_of c.label_of-i.type_inv in
    let p : SFits w64 (made c).p = sfits_of c.label_of-p.type_inv in
    let b = bounds d in
    let e = placed c in
    record {
      begins = simp plain (begins c);
      of = simp plain (own-label (goal.at.After-first_instant-v d).Start ∙ ap some (same-granule c));
      near = (b.0 ∴ e ∴ simp ints (omega arith), b.1 ∴ e ∴ simp ints (omega arith));
    }

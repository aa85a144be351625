-- `match_alter::find_behind` meets its contract: the claimed row is read at an instant of the granule D before.
-- Assumes nothing.
use mathlib.Core.Path.{◌≡◌, refl, sym, subst, ap₂}
use mathlib.Core.Option.{some}
use mathlib.Core.Bool.{true}
use Prim.Native.Nat.{◌^◌}
use native.Mathlib.Omega.{arith}
use lib.IntN.{ℤ, pos, ◌+ℤ◌, ◌-ℤ◌}
use mir.Facts.{to_z-of_z}
use mir.Syntax.{w64}
use mir.Val.{SFits, to_z, of_z}
use Rattle.integers.proofs.Linear.{ints, ◌∴◌}
use Rattle.calendar.specs.Meaning.{Row, meant}
use Rattle.calendar.specs.Sound.{sound}
use Rattle.cursors.specs.Found.{Within}
use Rattle.cursors.specs.Cursor.{Shown}
use Rattle.cursors.proofs.Numbers.{read_as}
use Rattle.kinds.specs.Stands.{row_in}
use Rattle.fill_shared.proofs.Points.{label_small}
use Rattle.match_shared.proofs.Lent.{lent_row}
use Rattle.match_stretches.proofs.Rows.{period-positive, lent_is}
use Rattle.match_alter.specs.declared.Place.{Place}
use Rattle.match_alter.specs.Scanning.{Seeking, Sought}
use Rattle.match_alter.proofs.find_behind.Goals as goal
use Rattle.match_alter.proofs.find_behind.Goals.{After-cells_of-r_cells, After-label_of-label, After-seek-place, Start}

abbrev A : Start → Row
A s = row_in s.args.pool.now s.args.a

abbrev R : Start → Row
R s = row_in s.args.pool.now s.args.r

-- ---- the granule D before
abbrev back : Start → ℤ
back s = s.args.j -ℤ s.args.repeat.fine

abbrev made : Start → ℤ
made s = to_z w64 (of_z w64 s.args.j) -ℤ to_z w64 (of_z w64 s.args.repeat.fine)

fine-fits : (s : Start) → SFits w64 s.args.repeat.fine
fine-fits s = s.requires.reading.fine ∴ simp ints (omega arith)

made-is : (s : Start) → made s ≡ back s
made-is s = ap₂ ◌-ℤ◌ (to_z-of_z s.ranges.j) (to_z-of_z {w = w64} (fine-fits s))

back_fits : (s : Start) → SFits w64 (back s)
back_fits s = s.requires.reading.near ∴ s.requires.reading.fine ∴ simp ints (omega arith)

back_read : (s : Start) → to_z w64 (of_z w64 (made s)) ≡ back s
back_read s = read_as {w = w64} (made-is s) (back_fits s)

pub overflow_sub-j : goal.overflow_sub-j
overflow_sub-j c = let s = (goal.at.overflow_sub-j c).Start in rw (made-is s) (back_fits s)

pub seek-place-requires : goal.seek-place-requires
seek-place-requires c =
    let s = (goal.at.seek-place-requires c).Start in
    record { stands = s.requires.stands; seeking = subst (λ (z : ℤ). Seeking (A s) (R s) z s.args.from.place) (sym (back_read s)) s.requires.reading.seeking }

abbrev start : After-seek-place → Start
start c = (goal.at.After-seek-place c).Start

abbrev place : After-seek-place → Place
place c = c.seek-place.result

sought : (c : After-seek-place) → Sought (A (start c)) (R (start c)) (back (start c)) (place c)
sought c = rw (back_read (start c)) at c.seek-place.ensures

-- ---- the label there
pub cells_of-r_cells-requires : goal.cells_of-r_cells-requires
cells_of-r_cells-requires c = let f = (start c).requires.stands.1 in record { pos_bound = period-positive _ _ f; a_in_bounds = f.fits }

r-is : (c : After-cells_of-r_cells) → let s = start (goal.at.After-cells_of-r_cells c).After-seek-place in lent_row s.args.r c.cells_of-r_cells.result.now ≡ R s
r-is c = lent_is _ _ (start (goal.at.After-cells_of-r_cells c).After-seek-place).requires.stands.1 _ c.cells_of-r_cells.ensures

pub label_of-label-requires : goal.label_of-label-requires
label_of-label-requires c =
    let l = (goal.at.label_of-label-requires c).After-cells_of-r_cells in
    let k = (goal.at.After-cells_of-r_cells l).After-seek-place in
    let s = start k in
    let q = sought k in
    let n = q.near in
    let x = subst (λ (r : Row). (sound r ≡ true) × Shown r (place k).claim) (sym (r-is l))
    (s.requires.stands.1.is-sound, (pos (place k).index, simp ints (omega arith), q.claim, s.requires.reading.labelled (place k).index q.label)) in
    record { sound = x.0; shown = x.1 }

abbrev Read : Type 0
Read = After-label_of-label

abbrev sought-of : Read → After-seek-place
sought-of c = (goal.at.After-label_of-label c).After-seek-place

read : (c : Read) → let k = sought-of c in meant (R (start k)) (pos (place k).index) ≡ some c.label_of-label.result
read c =
    let k = sought-of c in
    (rw (r-is (goal.at.After-label_of-label c).After-cells_of-r_cells) at c.label_of-label.ensures) (pos (place k).index) (sought k).claim

label-near : (c : Read) → Within (2 ^ 40) c.label_of-label.result
label-near c =
    let k = sought-of c in
    let s = start k in
    let n = (sought k).near in
    label_small s.args.r.period s.args.r.distance (R s).cells s.requires.stands.1.is-sound (pos (place k).index) c.label_of-label.result (simp ints (omega arith)) (simp ints (omega arith)) (read c)

label-fits : (c : Read) → SFits w64 c.label_of-label.result
label-fits c = label-near c ∴ simp ints (omega arith)

coarse-fits : (s : Start) → SFits w64 s.args.repeat.coarse
coarse-fits s = s.requires.reading.coarse ∴ simp ints (omega arith)

-- n more
abbrev sum : Read → ℤ
sum c = c.label_of-label.result +ℤ (start (sought-of c)).args.repeat.coarse

sum_is : (c : Read) → to_z w64 (of_z w64 c.label_of-label.result) +ℤ to_z w64 (of_z w64 (start (sought-of c)).args.repeat.coarse) ≡ sum c
sum_is c = ap₂ ◌+ℤ◌ (to_z-of_z {w = w64} (label-fits c)) (to_z-of_z {w = w64} (coarse-fits (start (sought-of c))))

sum_fits : (c : Read) → SFits w64 (sum c)
sum_fits c = label-near c ∴ (start (sought-of c)).requires.reading.coarse ∴ simp ints (omega arith)

pub overflow_add-result : goal.overflow_add-result
overflow_add-result c = let k = (goal.at.overflow_add-result c).After-label_of-label in rw (sum_is k) (sum_fits k)

pub returns : goal.returns
returns c =
    let k = (goal.at.returns c).After-label_of-label in
    let s = start (sought-of k) in
    record {
      sought = sought (sought-of k);
      label = k.label_of-label.result;
      read = read k;
      number = read_as {w = w64} (sum_is k) (sum_fits k);
      high = to_z-of_z s.ranges.j;
      walk = refl;
    }

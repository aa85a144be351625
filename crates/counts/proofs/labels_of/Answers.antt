-- `counts::labels_of` meets its contract: where every instant has a label, the cells that differ are those that rise.
-- Assumes nothing.
use mathlib.Core.Path.{◌≡◌, sym, ◌∙◌, ap}
use mathlib.Core.List.{List}
use Prim.Native.Nat.{ℕ, ◌-◌, ◌≤◌, ◌<◌}
use native.Mathlib.Omega.{arith}
use borrow.Author.Rules.{sfits_of}
use lib.IntN.{ℤ, pos}
use lib.ListN.{length, get_or, drop}
use mir.Facts.{to_z-of_z, to_z_pos}
use mir.Syntax.{w64}
use mir.Val.{to_z}
use Rattle.integers.proofs.Linear.{ints, ◌∴◌}
use Rattle.integers.proofs.Machine.{widened, test-eq}
use Rattle.calendar.specs.Limits.{pool_limit}
use Rattle.calendar.specs.Meaning.{empty}
use Rattle.calendar.specs.Sound.{labels_of}
use Rattle.cursors.specs.Search.{leading}
use Rattle.cursors.proofs.Numbers.{numbers}
use Rattle.row_check.proofs.Instants.{has-label}
use Rattle.row_check.specs.Order.{risen}
use Rattle.counts.specs.Labels.{rises, greatest, differing, counted}
use Rattle.counts.proofs.Steps.{labels-eq}
use Rattle.counts.proofs.Whole.{whole-leading, whole-counted}
use Rattle.counts.proofs.Turn.{last-label, counts, rises-few}
use Rattle.counts.proofs.labels_of.Goals as goal
use Rattle.counts.proofs.labels_of.Goals.{After-changes-count, After-wide-last, Else-labelled_instants-period, Start}

some-label : (s : Start) → leading s.args.cells.now < length s.args.cells.now
some-label s = has-label s.args.period s.args.distance s.args.cells.now s.requires.sound

pub labels_from-requires : goal.labels_from-requires
labels_from-requires c = let s = (goal.at.labels_from-requires c).Start in omega (arith, some-label s, s.requires.start_value)

pub changes-count-requires : goal.changes-count-requires
changes-count-requires c = omega (arith, some-label (goal.at.changes-count-requires c).Start)

pub overflow_sub-cells : goal.overflow_sub-cells
overflow_sub-cells c = omega (arith, some-label (goal.at.overflow_sub-cells c).Start)

pub wide-last-requires : goal.wide-last-requires
wide-last-requires c = omega (arith, some-label (goal.at.wide-last-requires c).Start)

-- every instant has a label
abbrev row : Else-labelled_instants-period → List ℤ
row c = c.args.cells.now

whole : (c : Else-labelled_instants-period) → length (labels_of (row c)) ≡ length (row c)
whole c =
    let s = (goal.at.Else-labelled_instants-period c).Start in
    let r = c.labelled_instants.result in
    let e : r ≡ s.args.period = (test-eq w64 r s.args.period (sfits_of c.labelled_instants.type_inv) s.ranges.period).0 c.if-labelled_instants-period.false in
    let n = numbers s.args.period s.args.distance (row c) s.requires.sound in
    c.labelled_instants.ensures ∴ e ∴ n.period-is ∴ n.whole ∴ simp ints (omega arith)

-- so the first label is the first cell
first : (c : Else-labelled_instants-period) → leading (row c) ≡ 0
first c = whole-leading (row c) (whole c)

abbrev first-label : Else-labelled_instants-period → ℤ
first-label c = get_or (row c) 0 empty

abbrev last : Else-labelled_instants-period → ℤ
last c = let s = (goal.at.Else-labelled_instants-period c).Start in (last-label s.args.period s.args.distance (row c) s.requires.sound).0

counted-whole : (c : Else-labelled_instants-period) → (rises (first-label c) (row c) ≡ differing (first-label c) (drop 1 (row c))) × (get_or (row c) (length (row c) - 1) empty ≡ last c)
counted-whole c =
    let s = (goal.at.Else-labelled_instants-period c).Start in
    let l = row c in
    let e = ap (λ (i : ℕ). risen (get_or l i empty) (drop i l)) (sym (first c)) ∙ (last-label s.args.period s.args.distance l s.requires.sound).1 in
    whole-counted l (last c) (omega (arith, some-label s)) (whole c) e

-- what the contract names
count-is : (c : Else-labelled_instants-period) → let s = (goal.at.Else-labelled_instants-period c).Start in rises (get_or (row c) s.args.start empty) (drop s.args.start (row c)) ≡ differing (first-label c) (drop 1 (row c))
count-is c =
    let s = (goal.at.Else-labelled_instants-period c).Start in
    ap (λ (i : ℕ). rises (get_or (row c) i empty) (drop i (row c))) (s.requires.start_value ∙ first c) ∙ (counted-whole c).0

last-is : (c : Else-labelled_instants-period) → let s = (goal.at.Else-labelled_instants-period c).Start in greatest (get_or (row c) s.args.start empty) (drop s.args.start (row c)) ≡ last c
last-is c =
    let s = (goal.at.Else-labelled_instants-period c).Start in
    ap (λ (i : ℕ). greatest (get_or (row c) i empty) (drop i (row c))) s.requires.start_value ∙ (counts s.args.period s.args.distance (row c) s.requires.sound).1

few : (c : After-changes-count) → c.changes-count.result ≤ pool_limit
few c =
    let d = (goal.at.After-changes-count c).Else-labelled_instants-period in
    let s = (goal.at.Else-labelled_instants-period d).Start in
    let r = rises-few s.args.period s.args.distance (row d) s.requires.sound in
    let e = ap (λ (i : ℕ). rises (get_or (row d) i empty) (drop i (row d))) (first d) ∙ (counted-whole d).0 in
    omega (arith, r, e, c.changes-count.ensures)

pub overflow_cast-result : goal.overflow_cast-result
overflow_cast-result c = few (goal.at.overflow_cast-result c).After-changes-count ∴ simp ints (omega arith)

count-read : (c : After-wide-last) → to_z w64 c.changes-count.result ≡ pos c.changes-count.result
count-read c = to_z_pos w64 (omega (arith, few (goal.at.After-wide-last c).After-changes-count))

pub overflow_add-result : goal.overflow_add-result
overflow_add-result c = count-read c ∴ few (goal.at.overflow_add-result c).After-changes-count ∴ simp ints (omega arith)

pub returns : goal.returns
unfolding counted
returns c =
    let d = (goal.at.returns c).Else-labelled_instants-period in
    let s = (goal.at.Else-labelled_instants-period d).Start in
    let n = c.changes-count.ensures in
    labels-eq
    (to_z-of_z (overflow_add-result c) ∙ (count-read c ∴ n ∴ count-is d ∴ simp ints (omega arith)))
    (to_z-of_z (widened c.wide-last.ensures.1) ∙ c.wide-last.ensures.0 ∙ (counted-whole d).1 ∙ sym (last-is d))

-- `row_check::instant_of` meets its contract: its numbers are those of `instant_of`, and fit.
-- Assumes nothing.
use mathlib.Core.Path.{◌≡◌, sym, ◌∙◌, ap, ap₂, subst}
use mathlib.Core.Option.{some}
use Prim.Native.Nat.{◌<◌, ◌^◌}
use native.Mathlib.Omega.{arith}
use borrow.Author.Rules.{sfits_of}
use lib.IntN.{ℤ, pos, ◌+ℤ◌, ◌-ℤ◌, ◌*ℤ◌}
use mir.Facts.{to_z-of_z}
use mir.Syntax.{w32, w64}
use mir.Val.{SFits, of_z, to_z}
use Rattle.integers.specs.Parts.{up}
use Rattle.integers.specs.Floor.{floor_div}
use Rattle.integers.proofs.Linear.{ints, ◌∴◌}
use Rattle.integers.proofs.Machine.{plain, widened}
use Rattle.calendar.specs.Granules.{first_label}
use Rattle.granules.proofs.Tests.{some_inj, none≢some}
use Rattle.cursors.specs.Found.{Within}
use Rattle.cursors.specs.Search.{position}
use Rattle.cursors.proofs.Numbers.{numbers, read_as}
use Rattle.row_check.proofs.Instants.{has-label, turns, Way, way, instant-found, instant-none}
use Rattle.row_check.proofs.instant_of.Goals as goal
use Rattle.row_check.proofs.instant_of.Goals.{After-first_label, After-floor_div-turns, After-position-i, Start, Then-i-cells}

known : (c : Start) → Way c.args.period c.args.distance c.args.cells.now c.requires.sound c.args.z
known c = way c.args.period c.args.distance c.args.cells.now c.requires.sound c.args.z c.requires.within

-- the turns of the label
abbrev T : Start → ℤ
T c = turns c.args.period c.args.distance c.args.cells.now c.requires.sound c.args.z

pub first_label-requires : goal.first_label-requires
first_label-requires c = has-label c.args.period c.args.distance c.args.cells.now c.requires.sound

-- what the calls gave, read back from its bits
first-is : (c : After-first_label) → to_z w64 (of_z w64 c.first_label.result) ≡ first_label c.args.cells.now
first-is c = to_z-of_z {w = w64} (sfits_of c.first_label.type_inv) ∙ c.first_label.ensures

pub overflow_sub-z : goal.overflow_sub-z
overflow_sub-z c = let z = c.ranges.z in simp (plain, first-is c) (known (goal.at.overflow_sub-z c).Start).from_first

pub floor_div-turns-requires : goal.floor_div-turns-requires
floor_div-turns-requires c =
    let s = (goal.at.floor_div-turns-requires c).Start in
    let d = s.ranges.distance in
    let n = numbers s.args.period s.args.distance s.args.cells.now s.requires.sound in
    n.distance_is ∴ n.low ∴ simp (plain, ints) (omega arith)

turns-are : (c : After-floor_div-turns) → to_z w64 (of_z w64 c.floor_div-turns.result) ≡ T (goal.at.After-floor_div-turns c).Start
turns-are c =
    let f = (goal.at.After-floor_div-turns c).After-first_label in
    let s = (goal.at.After-first_label f).Start in
    let z = s.ranges.z in
    let x : ℤ = to_z w64 (of_z w64 s.args.z) -ℤ to_z w64 (of_z w64 f.first_label.result) in
    let e = read_as {w = w64} {x = x} (simp (plain, first-is f)) (known s).from_first in
    to_z-of_z {w = w64} (sfits_of c.floor_div-turns.type_inv) ∙ c.floor_div-turns.ensures ∙ ap₂ (λ (y n : ℤ). floor_div y (up n)) e (to_z-of_z s.ranges.distance)

pub overflow_mul-cell : goal.overflow_mul-cell
overflow_mul-cell c = let d = c.ranges.distance in simp (plain, turns-are c) (known (goal.at.overflow_mul-cell c).Start).whole-fits

-- the label less its turns
abbrev less : After-floor_div-turns → ℤ
less c = to_z w64 (of_z w64 c.args.z) -ℤ to_z w64 (of_z w64 (to_z w64 (of_z w64 c.floor_div-turns.result) *ℤ to_z w64 (of_z w64 c.args.distance)))

less-is : (c : After-floor_div-turns) → less c ≡ c.args.z -ℤ T (goal.at.After-floor_div-turns c).Start *ℤ c.args.distance
less-is c =
    let s = (goal.at.After-floor_div-turns c).Start in
    let z = s.ranges.z in
    let d = s.ranges.distance in
    let w = (known s).whole-fits in
    simp (plain, turns-are c)

pub overflow_sub-cell : goal.overflow_sub-cell
overflow_sub-cell c = subst (SFits w64) (sym (less-is c)) (widened (known (goal.at.overflow_sub-cell c).Start).cell-fits)

cell-is : (c : After-floor_div-turns) → to_z w64 (of_z w64 (less c)) ≡ c.args.z -ℤ T (goal.at.After-floor_div-turns c).Start *ℤ c.args.distance
cell-is c = read_as (less-is c) (widened (known (goal.at.After-floor_div-turns c).Start).cell-fits)

pub overflow_cast-cell : goal.overflow_cast-cell
overflow_cast-cell c = subst (SFits w32) (sym (cell-is c)) (known (goal.at.overflow_cast-cell c).Start).cell-fits

pub overflow_mul-result : goal.overflow_mul-result
overflow_mul-result c = let p = c.ranges.period in simp (plain, turns-are (goal.at.overflow_mul-result c).After-floor_div-turns) (known (goal.at.overflow_mul-result c).Start).rise-fits

place_is : (c : After-position-i) → c.position-i.result ≡ position (c.args.z -ℤ T (goal.at.After-position-i c).Start *ℤ c.args.distance) c.args.cells.now
place_is c =
    let l = c.args.cells.now in
    c.position-i.ensures ∙ ap (λ (y : ℤ). position y l) (read_as {w = w32} {x = to_z w64 (of_z w64 (less (goal.at.After-position-i c).After-floor_div-turns))} (cell-is (goal.at.After-position-i c).After-floor_div-turns) (known (goal.at.After-position-i c).Start).cell-fits)

-- the instant found
abbrev instant : Then-i-cells → ℤ
instant c = to_z w64 c.position-i.result +ℤ to_z w64 (of_z w64 (to_z w64 (of_z w64 c.floor_div-turns.result) *ℤ to_z w64 (of_z w64 c.args.period)))

instant-is : (c : Then-i-cells) → instant c ≡ pos c.position-i.result +ℤ T (goal.at.Then-i-cells c).Start *ℤ c.args.period
instant-is c =
    let s = (goal.at.Then-i-cells c).Start in
    let p = s.ranges.period in
    let w = (known s).rise-fits in
    let i : c.position-i.result < 2 ^ 63 = omega arith in
    simp (plain, turns-are (goal.at.Then-i-cells c).After-floor_div-turns)

within : (c : Then-i-cells) → Within (2 ^ 54) (pos c.position-i.result +ℤ T (goal.at.Then-i-cells c).Start *ℤ c.args.period)
within c = (known (goal.at.Then-i-cells c).Start).within c.position-i.result c.if-i-cells.true

fits : (c : Then-i-cells) → SFits w64 (pos c.position-i.result +ℤ T (goal.at.Then-i-cells c).Start *ℤ c.args.period)
fits c = within c ∴ simp ints (omega arith)

pub overflow_add-result : goal.overflow_add-result
overflow_add-result c = subst (SFits w64) (sym (instant-is c)) (fits c)

pub returns-then-i-cells : goal.returns-then-i-cells
returns-then-i-cells c =
    let s = (goal.at.returns-then-i-cells c).Start in
    let e = read_as {w = w64} {x = instant c} (instant-is c) (fits c) in record {
      result_value = ap some e ∙ instant-found s.args.period s.args.distance s.args.cells.now s.requires.sound s.args.z s.requires.within c.position-i.result (place_is (goal.at.returns-then-i-cells c).After-position-i) c.if-i-cells.true;
      within_2 = λ t h. subst (Within (2 ^ 54)) (sym e ∙ some_inj h) (within c);
    }

pub returns-else-i-cells : goal.returns-else-i-cells
returns-else-i-cells c =
    let s = (goal.at.returns-else-i-cells c).Start in record {
      result_value = instant-none s.args.period s.args.distance s.args.cells.now s.requires.sound s.args.z s.requires.within c.position-i.result (place_is (goal.at.returns-else-i-cells c).After-position-i) c.if-i-cells.false;
      within_2 = λ t h. absurd (none≢some h);
    }

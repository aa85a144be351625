-- `fill_unary::renumbering::number_of` meets its contract: the labels above the last one and below x are those of whole turns and the rest.
-- Assumes nothing.
use mathlib.Core.Path.{◌≡◌, sym, ◌∙◌, ap, ap₂, subst}
use borrow.Author.Rules.{sfits_of}
use lib.IntN.{ℤ, pos, ◌+ℤ◌, ◌-ℤ◌, ◌*ℤ◌}
use mir.Facts.{to_z-of_z}
use mir.Syntax.{w64}
use mir.Val.{SFits, of_z, to_z}
use Rattle.integers.proofs.Machine.{plain}
use Rattle.calendar.specs.Granules.{granules}
use Rattle.calendar.specs.Compute.{count, renumbered}
use Rattle.cursors.proofs.Numbers.{read_as}
use Rattle.fill_unary.proofs.Reckoned.{Asked, row, turns, apart_fits, distance-positive, over, whole-fits, labels-fit, reckoned, reckoned-rest, reckoned-fits}
use Rattle.fill_unary.proofs.renumbering.number_of.Goals as goal
use Rattle.fill_unary.proofs.renumbering.number_of.Goals.{After-floor_div-turns, After-granules-granules, After-labels_below-rest, Start, Then-turns-eq0}

asked : (c : Start) → Asked c.args.x c.args.last c.args.a_period c.args.a_distance c.args.a_cells.now
asked c = record { sound = c.requires.fillable.sounds.0; is_last = c.requires.last_value; bound = c.requires.fillable.numbers }

pub overflow_sub-x : goal.overflow_sub-x
overflow_sub-x c =
    let x = c.ranges.x in
    let l = c.ranges.last in
    simp plain (apart_fits (asked c)).0

pub overflow_sub-x-2 : goal.overflow_sub-x-2
overflow_sub-x-2 c =
    let x = c.ranges.x in
    let l = c.ranges.last in
    let f = (apart_fits (asked c)).0 in
    simp plain (apart_fits (asked c)).1

pub floor_div-turns-requires : goal.floor_div-turns-requires
floor_div-turns-requires c = let d = c.ranges.a_distance in simp plain (distance-positive (asked c))

-- what the calls give
turns-are : (c : After-floor_div-turns) → to_z w64 (of_z w64 c.floor_div-turns.result) ≡ turns (asked (goal.at.After-floor_div-turns c).Start)
turns-are c =
    let s = (goal.at.After-floor_div-turns c).Start in
    let x = s.ranges.x in
    let l = s.ranges.last in
    let d = s.ranges.a_distance in
    let f = (apart_fits (asked s)).0 in
    let g = (apart_fits (asked s)).1 in
    to_z-of_z {w = w64} (sfits_of c.floor_div-turns.type_inv) ∙ simp plain at c.floor_div-turns.ensures

-- the whole turns, and what they leave
whole_is : (c : After-floor_div-turns) → let s = (goal.at.After-floor_div-turns c).Start in
    to_z w64 (of_z w64 c.floor_div-turns.result) *ℤ to_z w64 (of_z w64 s.args.a_distance) ≡ turns (asked s) *ℤ s.args.a_distance
whole_is c = ap₂ ◌*ℤ◌ (turns-are c) (to_z-of_z c.ranges.a_distance)

pub overflow_mul-turns : goal.overflow_mul-turns
overflow_mul-turns c = subst (SFits w64) (sym (whole_is c)) (whole-fits (asked (goal.at.overflow_mul-turns c).Start)).0

rest-is : (c : After-floor_div-turns) → let s = (goal.at.After-floor_div-turns c).Start in
    to_z w64 (of_z w64 s.args.x) -ℤ to_z w64 (of_z w64 (to_z w64 (of_z w64 c.floor_div-turns.result) *ℤ to_z w64 (of_z w64 s.args.a_distance))) ≡ s.args.x -ℤ turns (asked s) *ℤ s.args.a_distance
rest-is c = let s = (goal.at.After-floor_div-turns c).Start in ap₂ ◌-ℤ◌ (to_z-of_z s.ranges.x) (read_as (whole_is c) (whole-fits (asked s)).0)

pub overflow_sub-x-3 : goal.overflow_sub-x-3
overflow_sub-x-3 c = subst (SFits w64) (sym (rest-is c)) (whole-fits (asked (goal.at.overflow_sub-x-3 c).Start)).1

rest_read : (c : After-floor_div-turns) → let s = (goal.at.After-floor_div-turns c).Start in
    to_z w64 (of_z w64 (to_z w64 (of_z w64 s.args.x) -ℤ to_z w64 (of_z w64 (to_z w64 (of_z w64 c.floor_div-turns.result) *ℤ to_z w64 (of_z w64 s.args.a_distance))))) ≡ s.args.x -ℤ turns (asked s) *ℤ s.args.a_distance
rest_read c = read_as (rest-is c) (whole-fits (asked (goal.at.After-floor_div-turns c).Start)).1

pub labels_below-rest-requires : goal.labels_below-rest-requires
labels_below-rest-requires c =
    let s = (goal.at.labels_below-rest-requires c).Start in
    let l = s.ranges.last in
    let p = s.ranges.a_period in
    let d = s.ranges.a_distance in
    let o = over (asked s) in
    record { sound = simp plain o.sound; last_value = simp plain o.is_last; last_lt_x = rw (rest_read c) (simp plain (o.low, o.high)) }

labels-are : (c : After-labels_below-rest) → let s = (goal.at.After-labels_below-rest c).Start in
    to_z w64 (of_z w64 c.labels_below-rest.result) ≡ pos (count (row (asked s)) (s.args.last +ℤ pos 1) (s.args.x -ℤ turns (asked s) *ℤ s.args.a_distance -ℤ pos 1))
labels-are c =
    let s = (goal.at.After-labels_below-rest c).Start in
    let l = s.ranges.last in
    let p = s.ranges.a_period in
    let d = s.ranges.a_distance in
    to_z-of_z {w = w64} (sfits_of c.labels_below-rest.type_inv) ∙ simp plain at (rw (rest_read (goal.at.After-labels_below-rest c).After-floor_div-turns) at c.labels_below-rest.ensures)

-- where there is no whole turn
less-rest : (c : Then-turns-eq0) → let s = (goal.at.Then-turns-eq0 c).Start in pos 0 -ℤ to_z w64 (of_z w64 c.labels_below-rest.result) ≡ renumbered (row (asked s)) s.args.x s.args.last
less-rest c =
    let a = asked (goal.at.Then-turns-eq0 c).Start in
    ap (λ (z : ℤ). pos 0 -ℤ z) (labels-are (goal.at.Then-turns-eq0 c).After-labels_below-rest) ∙ reckoned-rest a (sym (turns-are (goal.at.Then-turns-eq0 c).After-floor_div-turns) ∙ ap (to_z w64) c.if-turns-eq0.true)

pub overflow_sub-result : goal.overflow_sub-result
overflow_sub-result c = subst (SFits w64) (sym (less-rest c)) (reckoned-fits (asked (goal.at.overflow_sub-result c).Start))

pub returns-then-turns-eq0 : goal.returns-then-turns-eq0
returns-then-turns-eq0 c = read_as (less-rest c) (reckoned-fits (asked (goal.at.returns-then-turns-eq0 c).Start))

-- the labels of the whole turns, and then the number
pub granules-granules-requires : goal.granules-granules-requires
granules-granules-requires c =
    let s = (goal.at.granules-granules-requires c).Start in
    let p = s.ranges.a_period in
    let d = s.ranges.a_distance in
    simp plain (asked s).sound

abbrev start : After-granules-granules → Start
start c = (goal.at.After-granules-granules c).Start

granules-are : (c : After-granules-granules) → to_z w64 (of_z w64 c.granules-granules.result) ≡ pos (granules (row (asked (start c))))
granules-are c =
    let s = start c in
    let p = s.ranges.a_period in
    let d = s.ranges.a_distance in
    to_z-of_z {w = w64} (sfits_of c.granules-granules.type_inv) ∙ simp plain at c.granules-granules.ensures

abbrev product : After-granules-granules → ℤ
product c = to_z w64 (of_z w64 c.floor_div-turns.result) *ℤ to_z w64 (of_z w64 c.granules-granules.result)

product_is : (c : After-granules-granules) → let a = asked (start c) in product c ≡ turns a *ℤ pos (granules (row a))
product_is c = ap₂ ◌*ℤ◌ (turns-are (goal.at.After-granules-granules c).After-floor_div-turns) (granules-are c)

pub overflow_mul-result : goal.overflow_mul-result
overflow_mul-result c = subst (SFits w64) (sym (product_is c)) (labels-fit (asked (start c))).0

less-is : (c : After-granules-granules) → let a = asked (start c) in pos 0 -ℤ to_z w64 (of_z w64 (product c)) ≡ pos 0 -ℤ turns a *ℤ pos (granules (row a))
less-is c = ap (λ (z : ℤ). pos 0 -ℤ z) (read_as (product_is c) (labels-fit (asked (start c))).0)

pub overflow_sub-result-2 : goal.overflow_sub-result-2
overflow_sub-result-2 c = subst (SFits w64) (sym (less-is c)) (labels-fit (asked (start c))).1

number_is : (c : After-granules-granules) → let s = start c in
    to_z w64 (of_z w64 (pos 0 -ℤ to_z w64 (of_z w64 (product c)))) -ℤ to_z w64 (of_z w64 c.labels_below-rest.result) ≡ renumbered (row (asked s)) s.args.x s.args.last
number_is c =
    let a = asked (start c) in
    ap₂ ◌-ℤ◌ (read_as (less-is c) (labels-fit a).1) (labels-are (goal.at.After-granules-granules c).After-labels_below-rest) ∙ reckoned a

pub overflow_sub-result-3 : goal.overflow_sub-result-3
overflow_sub-result-3 c = subst (SFits w64) (sym (number_is c)) (reckoned-fits (asked (start c)))

pub returns : goal.returns
returns c = read_as (number_is c) (reckoned-fits (asked (start c)))

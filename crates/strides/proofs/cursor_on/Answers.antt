-- `strides::cursor_on` meets its contract: the stride stays in the turn, or goes on by whole turns.
-- Assumes nothing.
use mathlib.Core.Path.{◌≡◌, sym, ◌∙◌, ap₂, subst}
use native.Mathlib.Omega.{arith}
use borrow.Author.Rules.{sfits_of}
use lib.IntN.{ℤ, pos, ◌+ℤ◌, ◌-ℤ◌, ◌*ℤ◌}
use mir.Facts.{to_z-of_z}
use mir.Syntax.{w64}
use mir.Val.{SFits, to_z, of_z}
use Rattle.integers.specs.Parts.{up}
use Rattle.integers.specs.Floor.{floor_div}
use Rattle.integers.proofs.Linear.{ints, ◌∴◌}
use Rattle.integers.proofs.Machine.{plain}
use Rattle.cursors.proofs.Numbers.{numbers, read_as}
use Rattle.cursors.proofs.Cursors.{Bounds, bounds, cursor-eq, cursor-moved}
use Rattle.strides.proofs.Strides.{turns, Stride, stride}
use Rattle.strides.proofs.cursor_on.Goals as goal
use Rattle.strides.proofs.cursor_on.Goals.{After-floor_div-turns, After-struct_told-1, Else-index-period, Start}

known : (c : Start) → Bounds c.args.period c.args.distance c.args.c
known c = bounds c.args.period c.args.distance c.args.cells.now c.requires.sound c.args.c c.requires.standing

abbrev T : Start → ℤ
T c = turns c.args.period c.args.distance c.args.cells.now c.requires.sound c.args.c (known c) c.args.steps c.requires.pos_bound.0 c.requires.pos_bound.1

strides : (c : Start) → Stride c.args.period c.args.distance c.args.cells.now c.requires.sound c.args.c (known c) c.args.steps c.requires.pos_bound.0 c.requires.pos_bound.1
strides c = stride c.args.period c.args.distance c.args.cells.now c.requires.sound c.args.c (known c) c.args.steps c.requires.pos_bound.0 c.requires.pos_bound.1

pub overflow_add-index : goal.overflow_add-index
overflow_add-index c =
    let s = (goal.at.overflow_add-index c).Start in
    let i = (known s).index-fits in
    let m = s.ranges.steps in
    let n = numbers s.args.period s.args.distance s.args.cells.now s.requires.sound in
    (known s).low ∴ (known s).high ∴ n.period-is ∴ n.high ∴ s.requires.pos_bound ∴ simp (plain, ints) (omega arith)

pub returns-then-index-period : goal.returns-then-index-period
returns-then-index-period c u e =
    let t = (goal.at.returns-then-index-period c).After-struct_told-1 in
    let s = (goal.at.After-struct_told-1 t).Start in
    let i = (known s).index-fits in
    let r = (known s).rise-fits in
    let p = s.ranges.period in
    let m = s.ranges.steps in
    let f = simp plain at (overflow_add-index t) in
    simp plain
    (cursor-moved s.args.period s.args.distance s.args.cells.now s.requires.sound s.args.c u s.args.steps (pos 0) _ _ e
    (simp ints (omega arith)) (simp ints (omega arith))
    ((known s).low ∴ s.requires.pos_bound ∴ simp ints (omega arith))
    (simp plain at c.if-index-period.true))

pub overflow_sub-over : goal.overflow_sub-over
overflow_sub-over c =
    let t = (goal.at.overflow_sub-over c).After-struct_told-1 in
    let s = (goal.at.After-struct_told-1 t).Start in
    let i = (known s).index-fits in
    let m = s.ranges.steps in
    let p = s.ranges.period in
    let f = simp plain at (overflow_add-index t) in
    let n = numbers s.args.period s.args.distance s.args.cells.now s.requires.sound in
    (known s).low ∴ (known s).high ∴ n.period-is ∴ n.high ∴ s.requires.pos_bound ∴ simp (plain, ints) (omega arith)

pub overflow_add-result : goal.overflow_add-result
overflow_add-result c =
    let s = (goal.at.overflow_add-result c).Start in
    let r = (known s).rise-fits in
    let d = s.ranges.distance in
    simp plain (known s).more-fits

pub returns-then-over-period : goal.returns-then-over-period
returns-then-over-period c u e =
    let a = (goal.at.returns-then-over-period c).Else-index-period in
    let t = (goal.at.Else-index-period a).After-struct_told-1 in
    let s = (goal.at.After-struct_told-1 t).Start in
    let i = (known s).index-fits in
    let r = (known s).rise-fits in
    let p = s.ranges.period in
    let d = s.ranges.distance in
    let m = s.ranges.steps in
    let f = simp plain at (overflow_add-index t) in
    let o = simp plain at (overflow_sub-over a) in
    let g = (known s).more-fits in
    simp plain
    (cursor-moved s.args.period s.args.distance s.args.cells.now s.requires.sound s.args.c u s.args.steps (pos 1) _ _ e
    (simp ints (omega arith)) (simp ints (omega arith))
    (simp plain at a.if-index-period.false ∴ simp ints (omega arith))
    (simp plain at c.if-over-period.true))

pub floor_div-turns-requires : goal.floor_div-turns-requires
floor_div-turns-requires c =
    let s = (goal.at.floor_div-turns-requires c).Start in
    let p = s.ranges.period in
    let n = numbers s.args.period s.args.distance s.args.cells.now s.requires.sound in
    n.period-is ∴ n.low ∴ n.middle ∴ simp (plain, ints) (omega arith)

-- the turns, read back from their bits
turns-are : (c : After-floor_div-turns) → to_z w64 (of_z w64 c.floor_div-turns.result) ≡ T (goal.at.After-floor_div-turns c).Start
turns-are c =
    let t = (goal.at.After-floor_div-turns c).After-struct_told-1 in
    let s = (goal.at.After-struct_told-1 t).Start in
    let i = (known s).index-fits in
    let m = s.ranges.steps in
    let f = simp plain at (overflow_add-index t) in
    to_z-of_z {w = w64} (sfits_of c.floor_div-turns.type_inv) ∙ c.floor_div-turns.ensures ∙ ap₂ (λ (y n : ℤ). floor_div y (up n)) (simp plain) (to_z-of_z s.ranges.period)

pub overflow_mul-result : goal.overflow_mul-result
overflow_mul-result c =
    let s = (goal.at.overflow_mul-result c).Start in
    let p = s.ranges.period in
    simp (plain, turns-are c) (strides s).whole-fits

pub overflow_mul-result-2 : goal.overflow_mul-result-2
overflow_mul-result-2 c =
    let s = (goal.at.overflow_mul-result-2 c).Start in
    let d = s.ranges.distance in
    simp (plain, turns-are c) (strides s).more-fits

-- how far the labels have risen there
abbrev rise : After-floor_div-turns → ℤ
rise c =
    let s = (goal.at.After-floor_div-turns c).Start in
    to_z w64 (of_z w64 s.args.c.rise) +ℤ to_z w64 (of_z w64 (to_z w64 (of_z w64 c.floor_div-turns.result) *ℤ to_z w64 (of_z w64 s.args.distance)))

rise-is : (c : After-floor_div-turns) → let s = (goal.at.After-floor_div-turns c).Start in rise c ≡ s.args.c.rise +ℤ T s *ℤ s.args.distance
rise-is c =
    let s = (goal.at.After-floor_div-turns c).Start in
    let r = (known s).rise-fits in
    let d = s.ranges.distance in
    let m = (strides s).more-fits in
    simp (plain, turns-are c)

pub overflow_add-result-2 : goal.overflow_add-result-2
overflow_add-result-2 c = let t = (goal.at.overflow_add-result-2 c).After-floor_div-turns in subst (SFits w64) (sym (rise-is t)) (strides (goal.at.After-floor_div-turns t).Start).rise-fits

-- its cell
abbrev cell : After-floor_div-turns → ℤ
cell c =
    let s = (goal.at.After-floor_div-turns c).Start in
    to_z w64 (of_z w64 (to_z w64 (of_z w64 s.args.c.index) +ℤ to_z w64 (of_z w64 s.args.steps))) -ℤ to_z w64 (of_z w64 (to_z w64 (of_z w64 c.floor_div-turns.result) *ℤ to_z w64 (of_z w64 s.args.period)))

cell-is : (c : After-floor_div-turns) → let s = (goal.at.After-floor_div-turns c).Start in cell c ≡ s.args.c.index +ℤ s.args.steps -ℤ T s *ℤ s.args.period
cell-is c =
    let t = (goal.at.After-floor_div-turns c).After-struct_told-1 in
    let s = (goal.at.After-struct_told-1 t).Start in
    let i = (known s).index-fits in
    let m = s.ranges.steps in
    let p = s.ranges.period in
    let f = simp plain at (overflow_add-index t) in
    let w = (strides s).whole-fits in
    simp (plain, turns-are c)

pub overflow_sub-result : goal.overflow_sub-result
overflow_sub-result c = subst (SFits w64) (sym (cell-is c)) (strides (goal.at.overflow_sub-result c).Start).cell-fits

pub returns : goal.returns
returns c u e =
    let t = (goal.at.returns c).After-floor_div-turns in
    let s = (goal.at.After-floor_div-turns t).Start in
    cursor-eq _ _ _ _ (read_as {w = w64} {x = cell t} (cell-is t) (strides s).cell-fits) (read_as {w = w64} {x = rise t} (rise-is t) (strides s).rise-fits) ∙ (strides s).leads u e
